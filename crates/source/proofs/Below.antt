-- Every token of a text stands before its end.
use Rattle.std.proofs.Common.{◌≡◌, ℕ, ◌+◌, ◌≤◌, List, [], ◌∷◌, length, sym, subst, arith}
use Rattle.scanner.specs.Scans.{lexemes_of}
use Rattle.scanner.specs.Words.{Lexeme}
use Rattle.scanner.proofs.Rises.{Rising, lexeme_place, lexemes_rise, lexemes_few}

abbrev pub Below : ℕ → List Lexeme → Type 0
Below q [] = Unit {0}
Below q (l ∷ ls) = (lexeme_place l + 1 ≤ q) × Below q ls

below_end : (p q : ℕ) (ls : List Lexeme) → Rising p q ls → Below q ls
below_end p q [] r = tt
below_end p q (l ∷ ls) r = (omega (arith, lexemes_few (lexeme_place l + 1) q ls r.1), below_end (lexeme_place l + 1) q ls r.1)

pub record FitsIn (text : List ℕ) (ls : List Lexeme) : Type 0 where
  pub below : Below (length text) ls
  pub few : length ls ≤ length text

pub tokens_fit : (text : List ℕ) (ls : List Lexeme) → ls ≡ lexemes_of text → FitsIn text ls
tokens_fit text ls e =
    subst (FitsIn text) (sym e)
    (record {
      below = below_end 0 (length text) (lexemes_of text) (lexemes_rise text);
      few = omega (arith, lexemes_few 0 (length text) (lexemes_of text) (lexemes_rise text));
    })

-- Where the scanner stands behind the bytes of a text: between tokens no comment is open, and no word goes on.
use Rattle.std.proofs.Common.{◌≡◌, ℕ, ◌-◌, List, [], ◌∷◌, length, get_or, sym, refl, ap, ◌∙◌, arith}
use Rattle.scanner.specs.Bytes.{class}
use Rattle.scanner.specs.Gaps.{BetweenTokens}
use Rattle.scanner.specs.Pieces.{Mode, between, in_word, in_comment}
use Rattle.scanner.specs.declared.class.Class.{Class}
use Rattle.scanner.specs.declared.class.Class.TheVariants.{LineFeed, Letter}
use Rattle.scanner.proofs.Modes.{next}
use Rattle.scanner.proofs.Owners.{behind, commented}

-- the mode behind these bytes
abbrev pub after : Mode → List ℕ → Mode
after m [] = m
after m (x ∷ a) = after (next m (class x)) a

-- in this mode no comment is open, and no word goes on with b
abbrev pub Ready : Mode → List ℕ → Type 0
Ready between b = Unit {0}
Ready in_word b = class (get_or b 0 0) ≡ Letter → ⊥
Ready in_comment b = ⊥

next_in_word : (m : Mode) (k : Class) → next m k ≡ in_word → k ≡ Letter
next_in_word in_comment LineFeed e = cc
next_in_word in_comment _ e = cc
next_in_word _ Letter e = refl
next_in_word _ _ e = cc

-- a word that is still open ends with a letter
last_letter : (m : Mode) (x : ℕ) (a : List ℕ) → after m (x ∷ a) ≡ in_word → class (get_or (x ∷ a) (length a) 0) ≡ Letter
last_letter m x [] e = next_in_word m (class x) e
last_letter m x (y ∷ a) e = last_letter (next m (class x)) y a e

-- a comment that is still open
open_comment : (m : Mode) (a : List ℕ) → after m a ≡ behind (length a) m a
open_comment m [] = refl
open_comment m (x ∷ a) = open_comment (next m (class x)) a

ready_behind : (a b : List ℕ) (m : Mode) → after between a ≡ m → BetweenTokens a b → Ready m b
ready_behind a b between e t = tt
ready_behind [] b in_word e t = grind arith
ready_behind (x ∷ a) b in_word e t =
    let n : length (x ∷ a) - 1 ≡ length a = omega arith in
    t.apart (ap (λ n. class (get_or (x ∷ a) n 0)) n ∙ last_letter between x a e)
ready_behind a b in_comment e t = absurd (t.quiet (commented a (length a) (omega arith) (sym (open_comment between a) ∙ e)))

pub ready : (a b : List ℕ) → BetweenTokens a b → Ready (after between a) b
ready a b t = ready_behind a b (after between a) refl t

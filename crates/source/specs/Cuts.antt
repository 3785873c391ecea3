-- Where the text of the first definition of a file ends.
use Rattle.std.specs.Prelude.{ℕ, ◌+◌, ◌-◌, max, Bool, false, cond, ◌&&◌, ◌||◌, List, [], ◌∷◌, length, take, Some, None, Option, ◌==◌, nat_le}
use Rattle.scanner.specs.Scans.{lexemes_of}
use Rattle.scanner.specs.Words.{Lexeme, opens, closes, name, number}

-- d parentheses are open, `stray` says whether words stood outside of a form, and the file ends at e
abbrev pub cut : ℕ → Bool → ℕ → List Lexeme → ℕ
cut d stray e [] = e
cut d stray e (opens p ∷ ls) = cond (d == 0 && stray) p (cut (d + 1) stray e ls)
cut d stray e (closes p ∷ ls) = cond (nat_le d 1) (p + 1) (cut (d - 1) stray e ls)
cut d stray e (name w p ∷ ls) = cut d (stray || d == 0) e ls
cut d stray e (number w v p ∷ ls) = cut d (stray || d == 0) e ls

-- the text of the first definition of a file, at least one byte; none of an empty file
abbrev pub first_text : List ℕ → Option (List ℕ)
first_text [] = None
first_text (b ∷ bs) = Some (take (max (cut 0 false (length (b ∷ bs)) (lexemes_of (b ∷ bs))) 1) (b ∷ bs))

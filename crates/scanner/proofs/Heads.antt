-- The word that begins a text: its letters, and what stands behind them.
use Rattle.std.proofs.Common.{◌≡◌, ℕ, Bool, true, false, ◌+◌, cond, List, [], ◌∷◌, take, drop, refl, ap, one-add, arith, ◌∙◌, add-zero}
use Rattle.std.specs.List.{prefix_len}
use Rattle.scanner.specs.Bytes.{class}
use Rattle.scanner.specs.Pieces.{between, in_word, if_letter, letters, pieces}
use Rattle.scanner.specs.declared.class.Class.{Class}
use Rattle.scanner.specs.declared.class.Class.TheVariants.{Letter}

-- it belongs to a word
abbrev pub letter : Class → Bool
letter Letter = true
letter _ = false

abbrev pub is_letter : ℕ → Bool
is_letter b = letter (class b)

-- as far as the bytes are letters
pub letters_taken : (bs : List ℕ) → take (prefix_len is_letter bs) bs ≡ letters bs
letters_taken [] = refl
letters_taken (b ∷ bs) = front (class b) (letters_taken bs)
  where
    front : (k : Class) → take (prefix_len is_letter bs) bs ≡ letters bs → take (cond (letter k) (1 + prefix_len is_letter bs) 0) (b ∷ bs) ≡ if_letter k (b ∷ letters bs)
    front Letter h = rw one-add (ap (λ w. b ∷ w) h)
    front _ h = refl

-- behind the letters of a word no word goes on
pub behind_word : (p : ℕ) (bs : List ℕ) → pieces in_word p bs ≡ pieces between (p + prefix_len is_letter bs) (drop (prefix_len is_letter bs) bs)
behind_word p [] = refl
behind_word p (b ∷ bs) = behind (class b) refl (behind_word (p + 1) bs)
  where
    behind : (k : Class) → class b ≡ k → pieces in_word (p + 1) bs ≡ pieces between (p + 1 + prefix_len is_letter bs) (drop (prefix_len is_letter bs) bs) → pieces in_word p (b ∷ bs) ≡ pieces between (p + prefix_len is_letter (b ∷ bs)) (drop (prefix_len is_letter (b ∷ bs)) (b ∷ bs))
    behind Letter e h = rw (e, one-add) (h ∙ ap (λ q. pieces between q (drop (prefix_len is_letter bs) bs)) (omega arith))
    behind _ e h = simp (e, add-zero)

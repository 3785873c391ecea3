-- The same bytes at other places have the same pieces at other places.
use Rattle.std.proofs.Common.{◌≡◌, ℕ, ◌+◌, ◌<◌, ◌≤◌, List, [], ◌∷◌, map, refl, ◌∙◌, arith}
use Rattle.std.proofs.lemmas.Bool.Decides.{nat_tests}
use Rattle.scanner.specs.Bytes.{class}
use Rattle.scanner.specs.Gaps.{moved, at_place}
use Rattle.scanner.specs.Pieces.{Piece, opening, closing, spelled, foreign, Mode, between, in_word, in_comment, letters, step, pieces}
use Rattle.scanner.specs.declared.class.Class.{Class}
use Rattle.scanner.specs.declared.class.Class.TheVariants.{Open, Close, Letter, Foreign}
use Rattle.scanner.proofs.Modes.{next}

pub moved_before : (n k p : ℕ) → p < n → p ≡ moved n k p
moved_before n k p h = grind (arith, nat_tests)

moved_from : (n k p : ℕ) → n ≤ p → p + k ≡ moved n k p
moved_from n k p h = grind (arith, nat_tests)

-- a byte at q that f takes to p: if f moves the pieces behind it, it moves those from it on
module _ (f : ℕ → ℕ) (x p q : ℕ) (v w : List ℕ) (go go' : Mode → List Piece) (e : p ≡ f q) where
  pub step_moves : (m : Mode) (k : Class) → (next m k ≡ in_word → v ≡ w) → go (next m k) ≡ map (at_place f) (go' (next m k)) → step m k x p v go ≡ map (at_place f) (step m k x q w go')
  step_moves in_comment Foreign s h = λ i. foreign x (e i) ∷ h i
  step_moves in_comment _ s h = h
  step_moves between Letter s h = λ i. spelled (s refl i) (e i) ∷ h i
  step_moves _ Foreign s h = λ i. foreign x (e i) ∷ h i
  step_moves _ Open s h = λ i. opening (e i) ∷ h i
  step_moves _ Close s h = λ i. closing (e i) ∷ h i
  step_moves _ _ s h = h

-- what stands from n on moves by k
pub pieces_shift : (n k : ℕ) (m : Mode) (p q : ℕ) (b : List ℕ) → n ≤ q → p ≡ q + k → pieces m p b ≡ map (at_place (moved n k)) (pieces m q b)
pieces_shift n k m p q [] le e = refl
pieces_shift n k m p q (x ∷ b) le e =
    step_moves (moved n k) x p q (letters (x ∷ b)) (letters (x ∷ b)) (λ m. pieces m (p + 1) b) (λ m. pieces m (q + 1) b) (e ∙ moved_from n k q le) m (class x) (λ _. refl)
    (pieces_shift n k (next m (class x)) (p + 1) (q + 1) b (omega arith) (omega arith))

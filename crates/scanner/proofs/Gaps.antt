-- A gap between tokens only moves the pieces behind it.
use Rattle.std.proofs.Common.{◌≡◌, ℕ, ◌+◌, List, [], ◌∷◌, ◌++◌, map, length, sym, refl, ap, ◌∙◌, subst, append_assoc, arith, length-append}
use Rattle.std.specs.List.{AllByRecursion}
use Rattle.scanner.specs.Bytes.{class}
use Rattle.scanner.specs.Gaps.{Gap, nothing, blank, line_feed, comment, Hushed, moved, at_place, GapMovesPieces}
use Rattle.scanner.specs.Pieces.{Piece, Mode, between, in_word, in_comment, if_letter, letters, step, pieces}
use Rattle.scanner.specs.declared.class.Class.{Class}
use Rattle.scanner.specs.declared.class.Class.TheVariants.{LineFeed, Letter, Foreign}
use Rattle.scanner.proofs.Cuts.{after, Ready, ready}
use Rattle.scanner.proofs.Modes.{next}
use Rattle.scanner.proofs.Shifts.{moved_before, step_moves, pieces_shift}

-- where no letter comes next no word begins
no_letter : (k : Class) (w : List ℕ) → (k ≡ Letter → ⊥) → if_letter k w ≡ []
no_letter Letter w ne = absurd (ne refl)
no_letter _ w ne = refl

no_letters : (b : List ℕ) → Ready in_word b → letters b ≡ []
no_letters [] r = refl
no_letters (x ∷ b) r = no_letter (class x) (x ∷ letters b) r

-- two words are one if what stands behind a first letter is
same_word : (k : Class) (x : ℕ) (v w : List ℕ) → (next in_word k ≡ in_word → v ≡ w) → if_letter k (x ∷ v) ≡ if_letter k (x ∷ w)
same_word Letter x v w h = ap (λ u. x ∷ u) (h refl)
same_word _ x v w h = refl

-- where no letter comes next a word has ended
step_ended : (k : Class) (x p : ℕ) (w : List ℕ) (go : Mode → List Piece) → (k ≡ Letter → ⊥) → step in_word k x p w go ≡ step between k x p w go
step_ended Letter x p w go ne = absurd (ne refl)
step_ended _ x p w go ne = refl

pieces_ready : (m : Mode) (p : ℕ) (b : List ℕ) → Ready m b → pieces m p b ≡ pieces between p b
pieces_ready between p b r = refl
pieces_ready in_word p [] r = refl
pieces_ready in_word p (x ∷ b) r = step_ended (class x) x p (letters (x ∷ b)) (λ m. pieces m (p + 1) b) r
pieces_ready in_comment p b r = absurd r

-- a comment up to its line feed
step_hushed : (k : Class) (x p : ℕ) (w : List ℕ) (go : Mode → List Piece) → (k ≡ LineFeed → ⊥) × (k ≡ Foreign → ⊥) → step in_comment k x p w go ≡ go in_comment
step_hushed LineFeed x p w go ne = absurd (ne.0 refl)
step_hushed Foreign x p w go ne = absurd (ne.1 refl)
step_hushed _ x p w go ne = refl

pieces_comment : (p q : ℕ) (c r : List ℕ) → AllByRecursion Hushed c → q ≡ p + length c + 1 → pieces in_comment p (c ++ (10 ∷ r)) ≡ pieces between q r
pieces_comment p q [] r h e = ap (λ n. pieces between n r) (omega arith)
pieces_comment p q (x ∷ c) r h e =
    step_hushed (class x) x p (letters (x ∷ (c ++ (10 ∷ r)))) (λ m. pieces m (p + 1) (c ++ (10 ∷ r))) h.0
    ∙ pieces_comment (p + 1) q c r h.1 (omega arith)

pieces_gap : {g : List ℕ} (p q : ℕ) (b : List ℕ) → Gap g → q ≡ p + length g → pieces between p (g ++ b) ≡ pieces between q b
pieces_gap p q b nothing e = ap (λ n. pieces between n b) (omega arith)
pieces_gap p q b (blank {g} x is gap) e =
    ap (λ k. step between k x p (letters (x ∷ (g ++ b))) (λ m. pieces m (p + 1) (g ++ b))) is
    ∙ pieces_gap (p + 1) q b gap (omega arith)
pieces_gap p q b (line_feed gap) e = pieces_gap (p + 1) q b gap (omega arith)
pieces_gap p q b (comment {g} c h gap) e =
    let all = length-append c (10 ∷ g) in
    ap (pieces in_comment (p + 1)) (append_assoc c (10 ∷ g) b)
    ∙ pieces_comment (p + 1) (p + length c + 2) c (g ++ b) h (omega arith)
    ∙ pieces_gap (p + length c + 2) q b gap (omega arith)

-- what is ready for b is ready for a gap before b
ready_gap : {g : List ℕ} (m : Mode) (b : List ℕ) → Gap g → Ready m b → Ready m (g ++ b)
ready_gap between b gap r = tt
ready_gap in_word b nothing r = r
ready_gap in_word b (blank x is gap) r = λ e. grind arith
ready_gap in_word b (line_feed gap) r = λ e. grind arith
ready_gap in_word b (comment c h gap) r = λ e. grind arith
ready_gap in_comment b gap r = r

-- the letters and the pieces from some place before the gap on
module _ {g : List ℕ} (gap : Gap g) (b : List ℕ) where
  same_letters : (a : List ℕ) → Ready (after in_word a) b → letters (a ++ (g ++ b)) ≡ letters (a ++ b)
  same_letters [] r = no_letters (g ++ b) (ready_gap in_word b gap r) ∙ sym (no_letters b r)
  same_letters (x ∷ a) r =
      same_word (class x) x (letters (a ++ (g ++ b))) (letters (a ++ b)) (λ w. same_letters a (subst (λ m. Ready (after m a) b) w r))

  gap_moves : (m : Mode) (p n : ℕ) (a : List ℕ) → n ≡ p + length a → Ready (after m a) b → pieces m p (a ++ (g ++ b)) ≡ map (at_place (moved n (length g))) (pieces m p (a ++ b))
  gap_moves m p n [] e r =
      pieces_ready m p (g ++ b) (ready_gap m b gap r)
      ∙ pieces_gap p (p + length g) b gap refl
      ∙ pieces_shift n (length g) between (p + length g) p b (omega arith) refl
      ∙ ap (map (at_place (moved n (length g)))) (sym (pieces_ready m p b r))
  gap_moves m p n (x ∷ a) e r =
      step_moves (moved n (length g)) x p p (letters (x ∷ (a ++ (g ++ b)))) (letters (x ∷ (a ++ b))) (λ m. pieces m (p + 1) (a ++ (g ++ b))) (λ m. pieces m (p + 1) (a ++ b))
      (moved_before n (length g) p (omega arith)) m (class x)
      (λ w. ap (λ l. if_letter (class x) (x ∷ l)) (same_letters a (subst (λ m. Ready (after m a) b) w r)))
      (gap_moves (next m (class x)) (p + 1) n a (omega arith) r)

pub gap_moves_pieces : GapMovesPieces
gap_moves_pieces a g b t gap = gap_moves gap b between 0 (length a) a (omega arith) (ready a b t)

use Rattle.std.proofs.Common.{◌≡◌, ℕ, zero, suc, ◌+◌, ◌*◌, ◌≤◌, List, [], ◌∷◌, length, set, ap, ◌∙◌, arith}
use borrow.Rule.Slice.PartMut.{put_mid}
use Rattle.packing.proofs.set_word.Goals as goal

put_four : (bs : List ℕ) (k n a b c d : ℕ) → n ≡ 4 → k + 4 ≤ length bs → put_mid k n bs (a ∷ b ∷ c ∷ d ∷ []) ≡ set (set (set (set bs k a) (k + 1) b) (k + 2) c) (k + 3) d
put_four [] k n a b c d e h = absurd (omega arith)
put_four (x ∷ []) zero n a b c d e h = absurd (omega arith)
put_four (x ∷ y ∷ []) zero n a b c d e h = absurd (omega arith)
put_four (x ∷ y ∷ z ∷ []) zero n a b c d e h = absurd (omega arith)
put_four (x ∷ y ∷ z ∷ w ∷ bs) zero n a b c d e h = rw e
put_four (x ∷ bs) (suc k) n a b c d e h =
    let e1 : suc k + 1 ≡ suc (k + 1) = omega arith in
    let e2 : suc k + 2 ≡ suc (k + 2) = omega arith in
    let e3 : suc k + 3 ≡ suc (k + 3) = omega arith in
    rw (e1, e2, e3) (ap (λ (r : List ℕ). x ∷ r) (put_four bs k n a b c d e (omega arith)))

pub returns-clause-after : goal.returns-clause-after
returns-clause-after c =
    ap (put_mid (4 * c.args.i) _ c.args.bytes.now) (c.copy_from_slice.ensures.after ∙ c.to_le_bytes.ensures)
    ∙ put_four c.args.bytes.now (4 * c.args.i) _ _ _ _ _ (omega arith) (omega arith)

-- The free bytes behind a report, one fewer.
use Rattle.std.proofs.Common.{◌≡◌, ℕ, ◌+◌, List, drop, set, sym, ◌∙◌, arith, drop-drop, drop-set-lt}

pub drop_more_set : {X : Type 0} (xs : List X) (i : ℕ) (x : X) → drop (i + 1) (set xs i x) ≡ drop 1 (drop i xs)
drop_more_set xs i x = drop-set-lt (i + 1) xs i x (omega arith) ∙ sym (drop-drop 1 i xs)

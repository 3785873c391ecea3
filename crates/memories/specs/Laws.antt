-- What a write does to the cells of a buffer and to what lies behind them.
use Rattle.std.proofs.Common.{◌≡◌, ℕ, ◌+◌, ◌*◌, ◌/◌, ◌<◌, min, List, map, length, drop, set, ℤ, pos, ap, ◌∙◌, arith, drop-set-lt, w32, SFits, of_z}
use Rattle.packing.specs.Packing.{cells_of, packed_in}
use Rattle.packing.proofs.Cells.{cells_packed_in, length_cells, length_packed_in}
use Rattle.memories.specs.Kinds.{behind, bytes_behind}

pub behind_set : (n : ℕ) (xs : List ℤ) (i : ℕ) (v : ℤ) → i < min n (length xs) → behind n (set xs i v) ≡ behind n xs
unfolding behind
behind_set n xs i v h = drop-set-lt n xs i v (omega arith)

pub packed_cells : (bs : List ℕ) (i : ℕ) (v : ℤ) → SFits w32 v → i < length (cells_of bs) → cells_of (packed_in bs i (of_z w32 v)) ≡ set (cells_of bs) i v
packed_cells bs i v f h = cells_packed_in bs i v f (omega (arith, length_cells bs))

pub packed_behind : (n : ℕ) (bs : List ℕ) (i w : ℕ) → i < min n (length (cells_of bs)) → bytes_behind n (packed_in bs i w) ≡ bytes_behind n bs
unfolding bytes_behind
packed_behind n bs i w h =
    let l = length_cells bs in
    let k = 4 * min n (length bs / 4) in
    ap (λ (l : ℕ). map pos (drop (4 * min n (l / 4)) (packed_in bs i w))) (length_packed_in bs i w)
    ∙ ap (map pos)
    (drop-set-lt k _ (4 * i + 3) _ (omega arith) ∙ drop-set-lt k _ (4 * i + 2) _ (omega arith) ∙ drop-set-lt k _ (4 * i + 1) _ (omega arith) ∙ drop-set-lt k _ (4 * i) _ (omega arith))

-- The numbers with a sign: how many, which one, and one that is written.
use Rattle.std.proofs.Common.{◌≡◌, ℕ, ◌/◌, ◌<◌, List, map, length, set, ℤ, ap, ◌∙◌, arith, length-set, w32, SFits, to_z, of_z}
use Rattle.std.proofs.lemmas.List.{length-map, map-set}
use Rattle.std.proofs.lemmas.Int.{ints, to_z-of_z}
use Rattle.packing.specs.Packing.{cells_of, packed_in, words_in}
use Rattle.packing.proofs.Words.{length_words, words_packed_in}

pub length_cells : (bs : List ℕ) → length (cells_of bs) ≡ length bs / 4
length_cells bs = length-map (words_in bs) (to_z w32) ∙ length_words bs

pub length_packed_in : (bs : List ℕ) (i w : ℕ) → length (packed_in bs i w) ≡ length bs
length_packed_in bs i w = length-set _ _ _ ∙ length-set _ _ _ ∙ length-set _ _ _ ∙ length-set _ _ _

pub cells_packed_in : (bs : List ℕ) (i : ℕ) (v : ℤ) → SFits w32 v → i < length bs / 4 → cells_of (packed_in bs i (of_z w32 v)) ≡ set (cells_of bs) i v
cells_packed_in bs i v f h =
    ap (map (to_z w32)) (words_packed_in bs i (of_z w32 v) (omega (arith, ints)) h)
    ∙ map-set (to_z w32) (words_in bs) i (of_z w32 v)
    ∙ ap (set (cells_of bs) i) (to_z-of_z w32 v f)

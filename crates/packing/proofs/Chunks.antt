-- The numbers, chunk by chunk.
use Rattle.std.proofs.Common.{◌≡◌, ℕ, zero, suc, ◌/◌, List, [], ◌∷◌, map, length, get_or, refl, ap, ap₂, sym, ◌∙◌, arith, w32}
use Rattle.std.specs.Int.{from_le_bytes}
use Rattle.std.specs.List.{slice_get}
use Rattle.std.specs.Option.{option_map}
use Rattle.std.specs.Simd.{first_chunks}
use Rattle.std.proofs.Math.ListN.{get_or-map}
use Rattle.std.proofs.lemmas.Option.{slice_get-map}
use Rattle.packing.specs.Packing.{words_in}

words_chunks : (bs : List ℕ) (n : ℕ) → n ≡ length bs / 4 → words_in bs ≡ map (from_le_bytes w32) (first_chunks 4 n bs)
words_chunks [] zero e = refl
words_chunks (a ∷ []) zero e = refl
words_chunks (a ∷ b ∷ []) zero e = refl
words_chunks (a ∷ b ∷ c ∷ []) zero e = refl
words_chunks (a ∷ b ∷ c ∷ d ∷ rest) zero e = absurd (omega arith)
words_chunks [] (suc n) e = absurd (omega arith)
words_chunks (a ∷ []) (suc n) e = absurd (omega arith)
words_chunks (a ∷ b ∷ []) (suc n) e = absurd (omega arith)
words_chunks (a ∷ b ∷ c ∷ []) (suc n) e = absurd (omega arith)
words_chunks (a ∷ b ∷ c ∷ d ∷ rest) (suc n) e = ap₂ ◌∷◌ refl (words_chunks rest n (omega arith))

pub word_chunk : (bs : List ℕ) (i : ℕ) → option_map (from_le_bytes w32) (slice_get (first_chunks 4 (length bs / 4) bs) i) ≡ slice_get (words_in bs) i
word_chunk bs i = sym (slice_get-map _ _ i) ∙ ap (λ (ws : List ℕ). slice_get ws i) (sym (words_chunks bs (length bs / 4) refl))

pub chunk_word : (bs : List ℕ) (i : ℕ) → from_le_bytes w32 (get_or (first_chunks 4 (length bs / 4) bs) i []) ≡ get_or (words_in bs) i 0
chunk_word bs i = sym (get_or-map (from_le_bytes w32) _ i []) ∙ ap (λ (ws : List ℕ). get_or ws i 0) (sym (words_chunks bs (length bs / 4) refl))

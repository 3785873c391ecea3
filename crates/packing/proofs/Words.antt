-- Numbers in bytes: how many, which one, one that is written, and that numbers and bytes come back from each other.
use Rattle.std.proofs.Common.{◌≡◌, ℕ, zero, suc, ◌+◌, ◌-◌, ◌*◌, ◌/◌, ◌%◌, ◌<◌, List, [], ◌∷◌, ◌++◌, length, get_or, set, refl, ap, ◌∙◌, arith}
use Rattle.std.proofs.lemmas.Nat.{from_le_bytes-to_le_bytes_4, le_bytes_4}
use Rattle.std.specs.List.{AllByRecursion}
use Rattle.packing.specs.Packing.{four, packed_in, words_in, words_bytes}

pub length_words : (bs : List ℕ) → length (words_in bs) ≡ length bs / 4
length_words [] = refl
length_words (a ∷ []) = refl
length_words (a ∷ b ∷ []) = refl
length_words (a ∷ b ∷ c ∷ []) = refl
length_words (a ∷ b ∷ c ∷ d ∷ rest) = omega (arith, length_words rest)

pub words_again : (ws : List ℕ) → AllByRecursion (λ w. w < 4294967296) ws → words_in (words_bytes ws) ≡ ws
words_again [] h = refl
words_again (w ∷ ws) h = ap (λ (x : ℕ). x ∷ words_in (words_bytes ws)) (from_le_bytes-to_le_bytes_4 w h.0) ∙ ap (λ (r : List ℕ). w ∷ r) (words_again ws h.1)

pub length_bytes : (ws : List ℕ) → length (words_bytes ws) ≡ 4 * length ws
length_bytes [] = refl
length_bytes (w ∷ ws) = omega (arith, length_bytes ws)

small : (a b c d i : ℕ) → a < 256 → b < 256 → c < 256 → d < 256 → get_or (a ∷ b ∷ c ∷ d ∷ []) i 0 < 256
small a b c d zero ha hb hc hd = ha
small a b c d (suc zero) ha hb hc hd = hb
small a b c d (suc (suc zero)) ha hb hc hd = hc
small a b c d (suc (suc (suc zero))) ha hb hc hd = hd
small a b c d (suc (suc (suc (suc i)))) ha hb hc hd = omega arith

pub bytes_again : (bs : List ℕ) (n : ℕ) → length bs ≡ 4 * n → AllByRecursion (λ b. b < 256) bs → words_bytes (words_in bs) ≡ bs
bytes_again [] n e h = refl
bytes_again (a ∷ []) n e h = absurd (omega arith)
bytes_again (a ∷ b ∷ []) n e h = absurd (omega arith)
bytes_again (a ∷ b ∷ c ∷ []) n e h = absurd (omega arith)
bytes_again (a ∷ b ∷ c ∷ d ∷ rest) n e h =
    ap (λ (r : List ℕ). r ++ words_bytes (words_in rest)) (le_bytes_4 (a ∷ b ∷ c ∷ d ∷ []) (four a b c d) refl (λ i. small a b c d i h.0 h.1.0 h.1.1.0 h.1.1.1.0) refl)
    ∙ ap (λ (r : List ℕ). a ∷ b ∷ c ∷ d ∷ r) (bytes_again rest (n - 1) (omega arith) h.1.1.1.1)

abbrev put4 : List ℕ → ℕ → ℕ → ℕ → ℕ → ℕ → List ℕ
put4 bs k a b c d = set (set (set (set bs k a) (suc k) b) (suc (suc k)) c) (suc (suc (suc k))) d

word_put : (bs : List ℕ) (i a b c d : ℕ) → 4 * i + 3 < length bs → words_in (put4 bs (4 * i) a b c d) ≡ set (words_in bs) i (four a b c d)
word_put [] i p q r s h = absurd (omega arith)
word_put (a ∷ []) i p q r s h = absurd (omega arith)
word_put (a ∷ b ∷ []) i p q r s h = absurd (omega arith)
word_put (a ∷ b ∷ c ∷ []) i p q r s h = absurd (omega arith)
word_put (a ∷ b ∷ c ∷ d ∷ rest) zero p q r s h = refl
word_put (a ∷ b ∷ c ∷ d ∷ rest) (suc i) p q r s h =
    let e : 4 * suc i ≡ suc (suc (suc (suc (4 * i)))) = omega arith in
    ap (λ (k : ℕ). words_in (put4 (a ∷ b ∷ c ∷ d ∷ rest) k p q r s)) e ∙ ap (λ (l : List ℕ). four a b c d ∷ l) (word_put rest i p q r s (omega arith))

-- a number that is written in its four bytes
pub words_packed_in : (bs : List ℕ) (i w : ℕ) → w < 4294967296 → i < length bs / 4 → words_in (packed_in bs i w) ≡ set (words_in bs) i w
words_packed_in bs i w f h =
    let e1 : 4 * i + 1 ≡ suc (4 * i) = omega arith in
    let e2 : 4 * i + 2 ≡ suc (suc (4 * i)) = omega arith in
    let e3 : 4 * i + 3 ≡ suc (suc (suc (4 * i))) = omega arith in
    rw (e1, e2, e3) (word_put bs i (w % 256) (w / 256 % 256) (w / 65536 % 256) (w / 16777216 % 256) (omega arith) ∙ ap (set (words_in bs) i) (from_le_bytes-to_le_bytes_4 w f))

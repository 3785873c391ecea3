-- A record and its facts make each other.
use Rattle.std.proofs.Common.{◌≡◌, ℕ, ◌+◌, ◌-◌, ◌*◌, ◌<◌, ◌≤◌, List, [], ◌∷◌, map, length, get_or, take, drop, Ok, sym, refl, ap, ◌∙◌, arith, w8, w32, Fits, SFits, to_z, of_z}
use Rattle.std.specs.List.{AllByRecursion}
use Rattle.std.proofs.ByRecursion.{All-from_get_or, All-map, All-weaker}
use Rattle.std.proofs.lemmas.List.{length-map, take_rest}
use Rattle.std.proofs.lemmas.Int.{ints, of_z-to_z, to_z-of_z}
use Rattle.packing.specs.Packing.{cells_of, words_bytes, words_in}
use Rattle.packing.proofs.Cells.{length_cells}
use Rattle.packing.proofs.Words.{bytes_again, length_bytes, words_again}
use Rattle.live_host.specs.Records.{body, facts_or_none, record_bytes, Sent, told_count, version}

-- numbers of four bytes
words_small : (bs : List ℕ) → AllByRecursion (λ b. b < 256) bs → AllByRecursion (λ w. w < 4294967296) (words_in bs)
words_small [] h = tt
words_small (a ∷ []) h = tt
words_small (a ∷ b ∷ []) h = tt
words_small (a ∷ b ∷ c ∷ []) h = tt
words_small (a ∷ b ∷ c ∷ d ∷ rest) h = (omega (arith, h.0, h.1.0, h.1.1.0, h.1.1.1.0), words_small rest h.1.1.1.1)

cons : {X : Type 0} {x y : X} {xs ys : List X} → x ≡ y → xs ≡ ys → x ∷ xs ≡ y ∷ ys
cons p q = cc

-- what comes back one by one comes back as a list
again : {A B : Type 0} (f : A → B) (g : B → A) (P : A → Type 0) → ((x : A) → P x → g (f x) ≡ x) → (xs : List A) → AllByRecursion P xs → map g (map f xs) ≡ xs
again f g P back [] h = refl
again f g P back (x ∷ xs) h = cons (back x h.0) (again f g P back xs h.1)

body_again : (ns : List ℕ) (n : ℕ) → length ns ≡ 4 * n → AllByRecursion (λ b. b < 256) ns → words_bytes (map (of_z w32) (cells_of ns)) ≡ ns
body_again ns n e h = ap words_bytes (again (to_z w32) (of_z w32) _ (of_z-to_z w32) (words_in ns) (words_small ns h)) ∙ bytes_again ns n e h

-- the bytes are those of the facts in them
made_again : (bs : List ℕ) → AllByRecursion (λ b. b < 256) bs → 6 ≤ length bs → get_or bs 0 0 ≡ 80 → get_or bs 1 0 ≡ 83 → get_or bs 2 0 ≡ 72 → version bs ≡ 1 → length bs ≡ 6 + 4 * told_count bs → record_bytes (cells_of (drop 6 bs)) ≡ bs
made_again [] a l q r s v z = absurd (omega arith)
made_again (x0 ∷ []) a l q r s v z = absurd (omega arith)
made_again (x0 ∷ x1 ∷ []) a l q r s v z = absurd (omega arith)
made_again (x0 ∷ x1 ∷ x2 ∷ []) a l q r s v z = absurd (omega arith)
made_again (x0 ∷ x1 ∷ x2 ∷ x3 ∷ []) a l q r s v z = absurd (omega arith)
made_again (x0 ∷ x1 ∷ x2 ∷ x3 ∷ x4 ∷ []) a l q r s v z = absurd (omega arith)
made_again (x0 ∷ x1 ∷ x2 ∷ x3 ∷ x4 ∷ x5 ∷ tail) a l q r s v z =
    let n = length_cells tail in
    cons (sym q) (cons (sym r) (cons (sym s) (cons (omega arith) (cons (omega arith) (cons (omega arith) (body_again tail x5 (omega arith) a.1.1.1.1.1.1))))))

-- the header is taken off
pub read_again : (bs : List ℕ) → ((i : ℕ) → Fits w8 (get_or bs i 0)) → 6 ≤ length bs → get_or bs 0 0 ≡ 80 → get_or bs 1 0 ≡ 83 → get_or bs 2 0 ≡ 72 → version bs ≡ 1 → length bs ≡ 6 + 4 * told_count bs → record_bytes (cells_of (take (length bs - 6) (drop 6 bs))) ≡ bs
read_again bs fit l q r s v z = rw (take_rest bs 6) (made_again bs (All-from_get_or (λ b. b < 256) bs 0 (λ i _. (fit i).fits)) l q r s v z)

pub sent : Sent
sent facts few fit =
    let n = length facts in
    let ws = map (of_z w32) facts in
    let size : length (words_bytes ws) ≡ 4 * n = length_bytes ws ∙ ap (λ (k : ℕ). 4 * k) (length-map facts (of_z w32)) in
    let small : AllByRecursion (λ w. w < 4294967296) ws = All-map (λ w. w < 4294967296) (of_z w32) facts (All-weaker (SFits w32) (λ z. of_z w32 z < 4294967296) (λ z f. omega (arith, ints)) facts fit) in
    let accepted : body (record_bytes facts) ≡ Ok (words_bytes ws) = grind (arith, size, few) in
    ap facts_or_none accepted ∙ ap (map (to_z w32)) (words_again ws small) ∙ again (of_z w32) (to_z w32) _ (to_z-of_z w32) facts fit

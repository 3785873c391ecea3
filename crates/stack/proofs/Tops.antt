-- The first n cells, from the last to the first and by place.
use Rattle.std.proofs.Common.{◌≡◌, ℕ, zero, suc, ◌+◌, ◌-◌, ◌<◌, ◌≤◌, List, [], ◌∷◌, ◌++◌, reverse, length, get_or, take, drop, set, replicate, Some, None, refl, ap, ◌∙◌, add-one, arith}
use Rattle.std.specs.List.{slice_get}
use Rattle.std.proofs.lemmas.List.{take_more, take_more_set, reverse-append, drop_all, append-nil}

pub tops_more : {X : Type 0} (xs : List X) (n : ℕ) (x : X) → n < length xs → reverse (take (n + 1) (set xs n x)) ≡ x ∷ reverse (take n xs)
tops_more xs n x h = ap reverse (take_more_set xs n x h) ∙ reverse-append (take n xs) (x ∷ [])

pub tops_at : {X : Type 0} (xs : List X) (n : ℕ) (d : X) → (n ≡ 0 → ⊥) → n ≤ length xs → reverse (take n xs) ≡ get_or xs (n - 1) d ∷ reverse (take (n - 1) xs)
tops_at xs n d some h =
    let e : n ≡ n - 1 + 1 = omega arith in
    ap (λ k. reverse (take k xs)) e ∙ ap reverse (take_more xs (n - 1) d (omega arith)) ∙ reverse-append (take (n - 1) xs) (get_or xs (n - 1) d ∷ [])

pub nth_below : {X : Type 0} (n : ℕ) (xs : List X) (i : ℕ) (d : X) → i < n → i < length xs → Some (get_or xs i d) ≡ slice_get (take n xs) i
nth_below zero xs i d h w = absurd (omega arith)
nth_below (suc n) [] i d h w = absurd (omega arith)
nth_below (suc n) (x ∷ xs) zero d h w = refl
nth_below (suc n) (x ∷ xs) (suc i) d h w = nth_below n xs i d (omega arith) (omega arith)

pub nth_past : {X : Type 0} (n : ℕ) (xs : List X) (i : ℕ) → n ≤ i → None ≡ slice_get (take n xs) i
nth_past zero xs i h = refl
nth_past (suc n) [] i h = refl
nth_past (suc n) (x ∷ xs) zero h = absurd (omega arith)
nth_past (suc n) (x ∷ xs) (suc i) h = nth_past n xs i (omega arith)

-- one cell more of those that are wiped
pub wiped_more : {X : Type 0} (n : ℕ) (x : X) (xs : List X) → n < length xs → set (replicate n x ++ drop n xs) n x ≡ replicate (n + 1) x ++ drop (n + 1) xs
wiped_more n x xs h = rw add-one (more n xs h)
  where
    more : (k : ℕ) (ys : List _) → k < length ys → set (replicate k x ++ drop k ys) k x ≡ replicate (suc k) x ++ drop (suc k) ys
    more k [] w = absurd (omega arith)
    more zero (y ∷ ys) w = refl
    more (suc k) (y ∷ ys) w = ap (λ l. x ∷ l) (more k ys (omega arith))

pub wiped_all : {X : Type 0} (n : ℕ) (x : X) (xs : List X) → length xs ≤ n → n ≤ length xs → replicate n x ++ drop n xs ≡ replicate (length xs) x
wiped_all n x xs h w =
    let e : n ≡ length xs = omega arith in
    ap (λ l. replicate n x ++ l) (drop_all n xs h) ∙ append-nil (replicate n x) ∙ ap (λ k. replicate k x) e

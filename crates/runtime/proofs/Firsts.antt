-- The numbers within a limit: how many, which, and one that is written.
use Rattle.std.proofs.Common.{◌≡◌, ℕ, ◌<◌, ◌≤◌, min, List, length, take, set, ℤ, sym, ap, ◌∙◌, arith}
use Rattle.std.proofs.Math.Seq.{take-set-lt}
use Rattle.std.specs.List.{slice_get}
use Rattle.std.proofs.lemmas.List.{length-take, take_all, take_min}
use Rattle.runtime.specs.First.{first}
use Rattle.runtime.proofs.Below.{nth_take}

pub length_first : (n : ℕ) (xs : List ℤ) → length (first n xs) ≡ min n (length xs)
unfolding first
length_first n xs = length-take n xs

pub set_first : (n : ℕ) (xs : List ℤ) (i : ℕ) (v : ℤ) → i < length (first n xs) → first n (set xs i v) ≡ set (first n xs) i v
unfolding first
set_first n xs i v h = take-set-lt n xs i v (omega (arith, length-take n xs))

-- below the limit the list is the same, also past its end
pub nth_within : (n : ℕ) (xs : List ℤ) (i : ℕ) → i < n → slice_get xs i ≡ slice_get (first n xs) i
unfolding first
nth_within n xs i h = sym (nth_take n xs i h)

pub first_all : (n : ℕ) (xs : List ℤ) → length xs ≤ n → first n xs ≡ xs
unfolding first
first_all n xs h = take_all n xs h

pub first_is : (n : ℕ) (xs : List ℤ) → first n xs ≡ take (min (length xs) n) xs
unfolding first
first_is n xs = let e : min n (length xs) ≡ min (length xs) n = omega arith in sym (take_min n xs) ∙ ap (λ k. take k xs) e

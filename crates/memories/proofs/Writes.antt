-- The cells within a limit, before and after a write.
use Rattle.std.proofs.Common.{◌≡◌, ℕ, ◌<◌, ◌≤◌, ltb, List, length, set, ℤ, Ok, Err, Result, sym, ap, ◌∙◌, ⊎_elim, arith, ltb-true, lt-ltb}
use Rattle.std.specs.Result.{OnOk, OnErr, is_ok}
use Rattle.std.proofs.lemmas.List.{set_past}
use Rattle.std.proofs.lemmas.Bool.{ltb-false, le-ltb, cases_lt}
use Rattle.runtime.specs.First.{first}
use Rattle.runtime.proofs.Firsts.{length_first, set_first}

-- a limit that i lies within takes nothing away from the test
pub inside_first : (n : ℕ) (xs : List ℤ) (i : ℕ) → i < n → ltb i (length xs) ≡ ltb i (length (first n xs))
inside_first n xs i h =
    let l = length_first n xs in
    ⊎_elim
    (λ w. lt-ltb i (length xs) w ∙ sym (lt-ltb i (length (first n xs)) (omega arith)))
    (λ w. le-ltb i (length xs) w ∙ sym (le-ltb i (length (first n xs)) (omega arith)))
    (cases_lt i (length xs))

pub first_written : {T E : Type 0} {W : Type 0} (n : ℕ) (xs ys : List ℤ) (i : ℕ) (v : ℤ) (r : Result T E) → i < n → is_ok r ≡ ltb i (length xs) → OnOk r W → (i < length xs → W → ys ≡ set xs i v) → OnErr r (ys ≡ xs) → first n ys ≡ set (first n xs) i v
first_written n xs ys i v (Ok x) h t w law e =
    let l = length_first n xs in
    let u : i < length xs = ltb-true i (length xs) (sym t) in
    ap (first n) (law u w) ∙ set_first n xs i v (omega arith)
first_written n xs ys i v (Err x) h t w law e =
    let l = length_first n xs in
    let u : length xs ≤ i = ltb-false i (length xs) (sym t) in
    ap (first n) e ∙ sym (set_past (first n xs) i v (omega arith))

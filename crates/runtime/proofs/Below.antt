-- Memory below the top.
use Rattle.std.proofs.Common.{◌≡◌, ℕ, zero, suc, ◌+◌, ◌-◌, ◌<◌, ◌≤◌, List, [], ◌∷◌, ◌++◌, length, take, drop, set, replicate, ℤ, pos, negsuc, Some, None, Ok, Option, sym, refl, ap, ◌∙◌, ⊎_elim, append_assoc, arith, lt-ltb, drop-drop, drop-set-lt}
use Rattle.std.proofs.Math.Seq.{take-set-lt}
use Rattle.std.specs.Bool.{then_some}
use Rattle.std.specs.List.{slice_get}
use Rattle.std.specs.Option.{MatchOption}
use Rattle.std.proofs.lemmas.Bool.{cases_lt, cond-true, cond-false, le-ltb}
use Rattle.std.proofs.lemmas.List.{length-take, replicate-append-replicate, take_more_set}
use Rattle.std.proofs.lemmas.Option.{MatchOption-at_none, MatchOption-at_some, none-some, same_Some}
use Rattle.runtime.specs.Access.{Effect, nth_integer, place, stored_at, unchanged}
use Rattle.runtime.specs.Meanings.{Kept}
use Rattle.runtime.specs.declared.stop.Stop.TheVariants.{Address}

pub nth_take : (top : ℕ) (m : List ℤ) (i : ℕ) → i < top → slice_get (take top m) i ≡ slice_get m i
nth_take zero m i h = absurd (omega arith)
nth_take (suc top) [] i h = refl
nth_take (suc top) (x ∷ m) zero h = refl
nth_take (suc top) (x ∷ m) (suc i) h = nth_take top m i (omega arith)

pub nth_take_past : (top : ℕ) (m : List ℤ) (i : ℕ) → top ≤ i → slice_get (take top m) i ≡ None
nth_take_past zero m i h = refl
nth_take_past (suc top) [] i h = refl
nth_take_past (suc top) (x ∷ m) zero h = absurd (omega arith)
nth_take_past (suc top) (x ∷ m) (suc i) h = nth_take_past top m i (omega arith)

-- what an address reads, by the place that it names
pub read_place : (top : ℕ) (m : List ℤ) (a : ℤ) (p : Option ℕ) (r : Option ℤ) → p ≡ place top a → MatchOption p (r ≡ None) (λ i. r ≡ slice_get m i) → r ≡ nth_integer (take top m) a
read_place top m (negsuc n) p r e h = MatchOption-at_none _ _ e h
read_place top m (pos n) p r e h =
    let Q : ℕ → Type 0 = λ i. r ≡ slice_get m i in
    ⊎_elim
    (λ w. MatchOption-at_some _ Q n (e ∙ ap (λ b. then_some b n) (lt-ltb n top w)) h ∙ sym (nth_take top m n w))
    (λ w. MatchOption-at_none _ Q (e ∙ ap (λ b. then_some b n) (le-ltb n top w)) h ∙ sym (nth_take_past top m n w))
    (cases_lt n top)

pub stored_past : (top : ℕ) (m : List ℤ) (a v : ℤ) → top ≤ length m → None ≡ place top a → unchanged Address (take top m) ≡ stored_at (take top m) a v
stored_past top m (negsuc n) v h e = refl
stored_past top m (pos n) v h e =
    let l = length-take top m in
    ⊎_elim
    (λ w. absurd (none-some n (e ∙ ap (λ b. then_some b n) (lt-ltb n top w))))
    (λ w. sym (cond-false _ _ _ (le-ltb n (length (take top m)) (omega arith))))
    (cases_lt n top)

pub stored_there : (top : ℕ) (m m' : List ℤ) (a v : ℤ) (i : ℕ) → top ≤ length m → Some i ≡ place top a → m' ≡ set m i v → ◌≡◌ {A = Effect} (record { result = Ok v; below = take top m' }) (stored_at (take top m) a v)
stored_there top m m' (negsuc n) v i h e w = cc
stored_there top m m' (pos n) v i h e w =
    let l = length-take top m in
    ⊎_elim
    (λ u.
    let j : i ≡ n = same_Some i n (e ∙ ap (λ b. then_some b n) (lt-ltb n top u)) in
    ap (λ (x : List ℤ). record { result = Ok v; below = x }) (ap (take top) (w ∙ ap (λ k. set m k v) j) ∙ take-set-lt top m n v u)
    ∙ sym (cond-true _ _ _ (lt-ltb n (length (take top m)) (omega arith))))
    (λ u. absurd (none-some i (sym (e ∙ ap (λ b. then_some b n) (le-ltb n top u)))))
    (cases_lt n top)

-- one more cell that holds 0
pub zeros_more : (from i : ℕ) (old m : List ℤ) → from ≤ i → i < length m → take i m ≡ take from old ++ replicate (i - from) (pos 0) → take (i + 1) (set m i (pos 0)) ≡ take from old ++ replicate (i + 1 - from) (pos 0)
zeros_more from i old m h w t =
    let k : i - from + 1 ≡ i + 1 - from = omega arith in
    take_more_set m i (pos 0) w
    ∙ ap (λ x. x ++ replicate 1 (pos 0)) t
    ∙ append_assoc (take from old) (replicate (i - from) (pos 0)) (replicate 1 (pos 0))
    ∙ ap (λ x. take from old ++ x) (replicate-append-replicate (i - from) 1 (pos 0) ∙ ap (λ n. replicate n (pos 0)) k)

pub rest_more : (i : ℕ) (old m : List ℤ) (v : ℤ) → drop i m ≡ drop i old → drop (i + 1) (set m i v) ≡ drop (i + 1) old
rest_more i old m v e = drop-set-lt (i + 1) m i v (omega arith) ∙ sym (drop-drop 1 i m) ∙ ap (drop 1) e ∙ drop-drop 1 i old

later : (a b : ℕ) (m n : List ℤ) → a ≤ b → drop a m ≡ drop a n → drop b m ≡ drop b n
later a b m n h e =
    let k : b ≡ a + (b - a) = omega arith in
    ap (λ x. drop x m) k ∙ sym (drop-drop (b - a) a m) ∙ ap (drop (b - a)) e ∙ drop-drop (b - a) a n ∙ sym (ap (λ x. drop x n) k)

-- what two calls in a row keep; the check does not find it alone
pub kept_trans : (a b c : ℕ) (l m n : List ℤ) → Kept a l b m → Kept b m c n → Kept a l c n
kept_trans a b c l m n p q =
    record {
      higher = omega arith;
      long = q.long ∙ p.long;
      rest = q.rest ∙ later b c m l q.higher p.rest;
    }

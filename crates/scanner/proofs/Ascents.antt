-- In a list of faults in which none comes before one that stands earlier, the first is the least.
use Rattle.std.proofs.Common.{◌≡◌, ℕ, ◌+◌, ◌*◌, ◌<◌, ◌≤◌, false, List, [], ◌∷◌, ◌++◌, Some, None, Option, sym, refl, ap, ◌∙◌, arith}
use Rattle.std.specs.List.{AllByRecursion}
use Rattle.std.proofs.ByRecursion.{All-append}
use Rattle.std.proofs.lemmas.Bool.{cond-false}
use Rattle.std.proofs.lemmas.Bool.Decides.{nat_tests}
use Rattle.scanner.specs.declared.fault.Refusal.{Refusal}
use Rattle.scanner.specs.Faults.{before, lesser, least}

abbrev pub first : {F : Type 0} → List F → Option F
first [] = None
first (f ∷ fs) = Some f

module _ {F : Type 0} (told : F → Refusal) where
  -- f does not come behind g
  abbrev pub NotBehind : F → F → Type 0
  NotBehind f g = before (told g) (told f) ≡ false

  abbrev pub Ascending : List F → Type 0
  Ascending [] = Unit {0}
  Ascending (f ∷ fs) = AllByRecursion (NotBehind f) fs × Ascending fs

  lesser_first : (f : F) (fs : List F) → AllByRecursion (NotBehind f) fs → lesser told f (first fs) ≡ f
  lesser_first f [] a = refl
  lesser_first f (g ∷ gs) a = cond-false _ _ _ a.0

  pub least_first : (fs : List F) → Ascending fs → least told fs ≡ first fs
  least_first [] a = refl
  least_first (f ∷ fs) a = ap Some (ap (lesser told f) (least_first fs a.1) ∙ lesser_first f fs a.0)

  pub ascending_append : (fs gs : List F) → Ascending fs → Ascending gs → AllByRecursion (λ f. AllByRecursion (NotBehind f) gs) fs → Ascending (fs ++ gs)
  ascending_append [] gs a b c = b
  ascending_append (f ∷ fs) gs a b c = (All-append (NotBehind f) fs gs a.0 c.0, ascending_append fs gs a.1 b c.1)

  -- by place, then by number
  abbrev pub rank : F → ℕ
  rank f = 32 * (told f).place + (told f).number

  -- faults of pass k whose ranks rise from x on
  abbrev pub Climbing : ℕ → ℕ → List F → Type 0
  Climbing k x [] = Unit {0}
  Climbing k x (f ∷ fs) = ((told f).pass ≡ k) × ((told f).number < 32) × (x ≤ rank f) × Climbing k (rank f) fs

  pub climbing_lower : (k x y : ℕ) (fs : List F) → x ≤ y → Climbing k y fs → Climbing k x fs
  climbing_lower k x y [] le h = tt
  climbing_lower k x y (f ∷ fs) le h = (h.0, h.1, omega (arith, h.2), h.3)

  ranked : (f g : F) → (told f).pass ≡ (told g).pass → (told f).number < 32 → (told g).number < 32 → rank f ≤ rank g → NotBehind f g
  ranked f g same few few' le = grind (arith, nat_tests)

  below : (k x : ℕ) (f : F) (fs : List F) → (told f).pass ≡ k → (told f).number < 32 → rank f ≤ x → Climbing k x fs → AllByRecursion (NotBehind f) fs
  below k x f [] same few le h = tt
  below k x f (g ∷ gs) same few le h =
      (ranked f g (same ∙ sym h.0) few h.1 (omega (arith, h.2)), below k (rank g) f gs same few (omega (arith, h.2)) h.3)

  pub climbing_ascends : (k x : ℕ) (fs : List F) → Climbing k x fs → Ascending fs
  climbing_ascends k x [] h = tt
  climbing_ascends k x (f ∷ fs) h = (below k (rank f) f fs h.0 h.1 (omega arith) h.3, climbing_ascends k (rank f) fs h.3)

  earlier : (f g : F) → (told f).pass < (told g).pass → NotBehind f g
  earlier f g lt = grind (arith, nat_tests)

  -- a fault of an earlier pass comes first, and so do all of them
  pub before_pass : (l y : ℕ) (f : F) (gs : List F) → (told f).pass < l → Climbing l y gs → AllByRecursion (NotBehind f) gs
  before_pass l y f [] lt b = tt
  before_pass l y f (g ∷ gs) lt b = (earlier f g (omega (arith, b.0)), before_pass l (rank g) f gs lt b.3)

  pub passes : (k l x y : ℕ) (fs gs : List F) → k < l → Climbing k x fs → Climbing l y gs → AllByRecursion (λ f. AllByRecursion (NotBehind f) gs) fs
  passes k l x y [] gs lt a b = tt
  passes k l x y (f ∷ fs) gs lt a b = (before_pass l y f gs (omega (arith, a.0)) b, passes k l (rank f) y fs gs lt a.3 b)

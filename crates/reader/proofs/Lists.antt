-- What a reader keeps as it goes through the elements of a list.
use Rattle.std.proofs.Common.{◌≡◌, ℕ, ◌≤◌, ◌&&◌, Bool, true, false, Some, None, Option, refl, add-zero, add_assoc, arith}
use Rattle.std.specs.Option.{option_or}
use Rattle.std.proofs.Math.Bool.{and_assoc}
use Rattle.reader.specs.Forms.{Forest, none, named, numbered, form, Pile, tail, count, size, survey, survey_first, both, Readable}
use Rattle.reader.specs.declared.elements.Survey.{Survey}

or_assoc : (x y z : Option ℕ) → option_or (option_or x y) z ≡ option_or x (option_or y z)
or_assoc None y z = refl
or_assoc (Some x) y z = refl

or_none : (x : Option ℕ) → option_or x None ≡ x
or_none None = refl
or_none (Some x) = refl

and_true : (x : Bool) → (x && true) ≡ x
and_true true = refl
and_true false = refl

pub both_assoc : (a b c : Survey) → both (both a b) c ≡ both a (both b c)
both_assoc a b c = λ i. record { count = add_assoc a.count b.count c.count i; only_names = and_assoc a.only_names b.only_names c.only_names i; misfit = or_assoc a.misfit b.misfit c.misfit i }

pub both_none : (a : Survey) → both a (survey none) ≡ a
both_none a = λ i. record { count = add-zero a.count i; only_names = and_true a.only_names i; misfit = or_none a.misfit i }

-- elements are the first and the others
pub both_first : (f : Forest) → both (survey_first f) (survey (tail f)) ≡ survey f
both_first none = refl
both_first (named w p rest) = refl
both_first (numbered w v p rest) = refl
both_first (form p f rest) = refl

-- `found` is what was read from `start` on up to `now`
pub record Reading (room : ℕ) (found : Survey) (start now : Pile) : Type 0 where
  pub readable : Readable room now.here
  pub sum : both found (survey now.here) ≡ survey start.here
  pub same : now.around ≡ start.around

-- a list has at most as many elements as there are at any depth
pub few : (f : Forest) → count f ≤ size f
few none = omega arith
few (named w p rest) = omega (arith, few rest)
few (numbered w v p rest) = omega (arith, few rest)
few (form p f rest) = omega (arith, few rest)

-- The misfit that is found on one way through the elements is the first of all.
use Rattle.std.proofs.Common.{◌≡◌, ℕ, Bool, true, false, cond, List, [], ◌∷◌, ◌++◌, map, Some, None, Ok, Err, Option, Result, refl}
use Rattle.std.specs.Option.{option_or}
use Rattle.reader.specs.Forms.{Forest, none, named, numbered, form, fits, misfits, misfit}
use Rattle.reader.specs.Nests.{first_of}
use Rattle.reader.specs.declared.fault.FormFault.{FormFault}
use Rattle.reader.specs.declared.fault.FormFault.TheVariants.{NoShape}

module _ {X : Type 0} (x : X) where
  at_most_one : Option ℕ → Result X FormFault
  at_most_one None = Ok x
  at_most_one (Some p) = Err (NoShape p)

  append : (ps qs : List ℕ) (o u : Option ℕ) → first_of (map NoShape ps) x ≡ at_most_one o → first_of (map NoShape qs) x ≡ at_most_one u → first_of (map NoShape (ps ++ qs)) x ≡ at_most_one (option_or o u)
  unfolding at_most_one
  append [] qs None u e h = h
  append [] qs (Some p) u e h = cc
  append (q ∷ ps) qs None u e h = cc
  append (q ∷ ps) qs (Some p) u e h = e

  own : (b : Bool) (ps : List ℕ) (p : ℕ) (o : Option ℕ) → first_of (map NoShape ps) x ≡ at_most_one o → first_of (map NoShape (cond b ps (p ∷ []))) x ≡ at_most_one (cond b o (Some p))
  unfolding at_most_one
  own true ps p o e = e
  own false ps p o e = refl

  found : (f : Forest) → first_of (map NoShape (misfits f)) x ≡ at_most_one (misfit f)
  unfolding at_most_one
  found none = refl
  found (named w p rest) = found rest
  found (numbered w v p rest) = found rest
  found (form p f rest) = append (cond (fits f) (misfits f) (p ∷ [])) (misfits rest) (cond (fits f) (misfit f) (Some p)) (misfit rest) (own (fits f) (misfits f) p (misfit f) (found f)) (found rest)

  pub first_misfit : (f : Forest) (p : ℕ) → misfit f ≡ Some p → first_of (map NoShape (misfits f)) x ≡ Err (NoShape p)
  unfolding at_most_one
  first_misfit f p e = rw e at (found f)

  pub no_misfit : (f : Forest) → misfit f ≡ None → first_of (map NoShape (misfits f)) x ≡ Ok x
  unfolding at_most_one
  no_misfit f e = rw e at (found f)

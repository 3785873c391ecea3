use Rattle.std.proofs.Common.{◌≡◌, Err, ℤ, Result, sym, ap, ◌∙◌, w32, rules}
use Rattle.std.proofs.lemmas.Int.{to_z-of_z, wrapping_add_is}
use Rattle.runtime.specs.Access.{address, place}
use Rattle.runtime.specs.InUseMut.{below}
use Rattle.runtime.specs.declared.stop.Stop.{Stop}
use Rattle.runtime.specs.declared.stop.Stop.TheVariants.{Address}
use Rattle.runtime.proofs.Below.{stored_past, stored_there}
use Rattle.runtime.proofs.in_use_mut.InUseMut.store.Goals as goal

pub returns-in_err-place-clause-does : goal.returns-in_err-place-clause-does
returns-in_err-place-clause-does g c =
    let e = c.place_below.ensures ∙ ap (place c.args.self.now.top) (wrapping_add_is w32 c.args.base c.args.index c.ranges.base c.ranges.index) in
    let q : c.from_residual.result ≡ Err Address = search rules in
    let s = stored_past c.args.self.now.top (g.M.Memory.cells c.args.self.now.memory.now) (address c.args.base c.args.index) c.args.value c.args.self.now.within (sym c.in_err-place.ensures.ok_part ∙ e) in
    ap (λ (r : Result ℤ Stop). record { result = r; below = below c.args.self.now }) q ∙ s

pub returns-clause-does : goal.returns-clause-does
returns-clause-does g c =
    let e = c.place_below.ensures ∙ ap (place c.args.self.now.top) (wrapping_add_is w32 c.args.base c.args.index c.ranges.base c.ranges.index) in
    let f = c.ranges.value in
    simp to_z-of_z (stored_there c.args.self.now.top (g.M.Memory.cells c.args.self.now.memory.now) (g.M.Memory.cells c.write.new.self) (address c.args.base c.args.index) c.args.value c.in_ok-place.place c.args.self.now.within (sym c.in_ok-place.ensures.ok_part ∙ e) (search rules))

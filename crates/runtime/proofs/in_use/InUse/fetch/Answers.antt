use Rattle.std.proofs.Common.{◌≡◌, None, ap, ◌∙◌, w32, rules}
use Rattle.std.specs.Option.{MatchOption, ok_or}
use Rattle.std.specs.List.{slice_get}
use Rattle.std.proofs.lemmas.Int.{wrapping_add_is}
use Rattle.runtime.specs.Access.{address, place}
use Rattle.runtime.specs.declared.stop.Stop.TheVariants.{Address}
use Rattle.runtime.proofs.Below.{read_place}
use Rattle.runtime.proofs.in_use.InUse.fetch.Goals as goal

pub returns : goal.returns
returns g c =
    let e = c.place_below.ensures ∙ ap (place c.args.self.now.top) (wrapping_add_is w32 c.args.base c.args.index c.ranges.base c.ranges.index) in
    let t : MatchOption c.place_below.result (c.and_then.result ≡ None) (λ i. c.and_then.result ≡ slice_get (g.M.Memory.cells c.args.self.now.memory.now) i) = search rules in
    c.ok_or.ensures.value ∙ ap (λ r. ok_or r Address) (read_place c.args.self.now.top (g.M.Memory.cells c.args.self.now.memory.now) (address c.args.base c.args.index) _ _ e t)

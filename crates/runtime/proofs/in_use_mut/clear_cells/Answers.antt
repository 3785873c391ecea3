use Rattle.std.proofs.Common.{◌+◌, ◌<◌, length, ap, ◌∙◌, arith, length-set, drop, take}
use Rattle.runtime.proofs.Below.{rest_more, zeros_more}
use Rattle.runtime.proofs.in_use_mut.clear_cells.Goals as goal

pub loop-place-preserved : goal.loop-place-preserved
loop-place-preserved g c =
    let i = c.loop-place.place in
    let m = g.M.Memory.cells c.loop-place.memory in
    let old = g.M.Memory.cells c.args.memory.now in
    let w : i < length m = omega arith in
    let e = c.write.ensures.after in
    record {
      below = ap (take (i + 1)) e ∙ zeros_more c.args.from i old m (omega arith) w c.loop-place.invariant.below;
      long = ap length e ∙ length-set m i _ ∙ c.loop-place.invariant.long;
      rest = ap (drop (i + 1)) e ∙ rest_more i old m _ c.loop-place.invariant.rest;
      around = c.write.ensures.around ∙ c.loop-place.invariant.around;
    }

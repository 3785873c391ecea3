use Rattle.std.proofs.Math.Seq.{take-set-lt}
use Rattle.std.proofs.lemmas.Int.{to_z-of_z}
use Rattle.runtime.proofs.in_use_mut.InUseMut.set_cell.Goals as goal

pub returns-then-i-self-clause-below : goal.returns-then-i-self-clause-below
returns-then-i-self-clause-below g c = let e = take-set-lt c.args.self.now.top (g.M.Memory.cells c.args.self.now.memory.now) c.args.i c.args.value c.if-i-self.true in let z = to_z-of_z _ c.args.value c.ranges.value in cc (c.write.ensures.after, e)

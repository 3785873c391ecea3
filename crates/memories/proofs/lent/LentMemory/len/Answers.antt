use Rattle.std.proofs.Common.{arith}
use Rattle.runtime.proofs.Firsts.{length_first}
use Rattle.memories.proofs.lent.LentMemory.len.Goals as goal

pub returns-clause-answer : goal.returns-clause-answer
returns-clause-answer g c = let e = length_first g.B.Part.Part.MOST_CELLS (g.B.Buffer.cells c.args.self.now.buffer) in omega (arith, e, c.cell_count.ensures, c.min.ensures)

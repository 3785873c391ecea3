use Rattle.std.proofs.Common.{sym, ◌∙◌, arith}
use Rattle.std.proofs.lemmas.Option.{slice_get_past}
use Rattle.runtime.specs.First.{first}
use Rattle.runtime.proofs.Firsts.{length_first, nth_within}
use Rattle.memories.proofs.lent.LentMemory.read.Goals as goal

pub returns-then-i-MAX_CELLS : goal.returns-then-i-MAX_CELLS
returns-then-i-MAX_CELLS g c = c.cell.ensures ∙ nth_within g.B.Part.Part.MOST_CELLS (g.B.Buffer.cells c.args.self.now.buffer) c.args.i (omega arith)

pub returns-else-i-MAX_CELLS : goal.returns-else-i-MAX_CELLS
returns-else-i-MAX_CELLS g c =
    let n = g.B.Part.Part.MOST_CELLS in
    let xs = g.B.Buffer.cells c.args.self.now.buffer in
    let e = length_first n xs in
    sym (slice_get_past (first n xs) c.args.i (omega arith))

use Rattle.std.proofs.Common.{ℤ, sym, ap, ◌∙◌, subst, arith, w32}
use Rattle.std.proofs.lemmas.Bool.{le-ltb}
use Rattle.std.proofs.lemmas.List.{set_past}
use Rattle.std.proofs.lemmas.Int.{to_z-of_z}
use Rattle.std.proofs.lemmas.Result.{on_err_weaker}
use Rattle.std.specs.Result.{OnOk}
use Rattle.runtime.specs.First.{first}
use Rattle.runtime.proofs.Firsts.{length_first}
use Rattle.memories.proofs.Writes.{first_written, inside_first}
use Rattle.memories.proofs.lent.LentMemory.write.Goals as goal

pub returns-then-i-MAX_CELLS-clause-answer : goal.returns-then-i-MAX_CELLS-clause-answer
returns-then-i-MAX_CELLS-clause-answer g c =
    let n = g.B.Part.Part.MOST_CELLS in
    let xs = g.B.Buffer.cells c.args.self.now.buffer in
    let e = length_first n xs in
    sym (le-ltb c.args.i _ (omega arith))

pub returns-then-i-MAX_CELLS-clause-after : goal.returns-then-i-MAX_CELLS-clause-after
returns-then-i-MAX_CELLS-clause-after g c =
    let n = g.B.Part.Part.MOST_CELLS in
    let xs = g.B.Buffer.cells c.args.self.now.buffer in
    let e = length_first n xs in
    sym (set_past (first n xs) c.args.i c.args.v (omega arith))

pub returns-clause-answer : goal.returns-clause-answer
returns-clause-answer g c = c.set_cell.ensures.answer ∙ inside_first g.B.Part.Part.MOST_CELLS (g.B.Buffer.cells c.args.self.now.buffer) c.args.i (omega arith)

pub returns-clause-after : goal.returns-clause-after
returns-clause-after g c =
    let a = c.args.self.now.buffer in
    let b = c.set_cell.new.self in
    let P : ℤ → Type 0 = λ v. OnOk c.set_cell.result (g.B.Buffer.Written a c.args.i v b) in
    first_written g.B.Part.Part.MOST_CELLS (g.B.Buffer.cells a) (g.B.Buffer.cells b) c.args.i c.args.v c.set_cell.result
    (omega arith)
    c.set_cell.ensures.answer
    (subst P (to_z-of_z w32 c.args.v c.ranges.v) c.set_cell.ensures.ok)
    (λ h w. g.met.B.Buffer.one_written a b c.args.i c.args.v c.ranges.v h w)
    (on_err_weaker c.set_cell.result (λ e. ap g.B.Buffer.cells e) c.set_cell.ensures.err)

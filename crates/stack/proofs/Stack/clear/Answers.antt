use Rattle.std.proofs.Common.{◌≡◌, List, set, ap, ◌∙◌, arith, length-set, rules}
use Rattle.stack.proofs.Tops.{wiped_all, wiped_more}
use Rattle.stack.proofs.Stack.clear.Goals as goal

pub bounds-self-i : goal.bounds-self-i
bounds-self-i g c = omega (arith, c.loop-i.invariant.1)

pub loop-i-preserved : goal.loop-i-preserved
loop-i-preserved g c = (
  ap (λ (l : List g.row.T.Denot). set l c.loop-i.i c.args.blank) c.loop-i.invariant.0 ∙ wiped_more c.loop-i.i c.args.blank c.args.self.now.cells.now (omega arith),
  length-set _ _ _ ∙ c.loop-i.invariant.1,
  c.loop-i.invariant.2,
  c.loop-i.invariant.3,
)

pub returns : goal.returns
returns g c =
    let e : c.loop-i.self.depth ≡ 0 = c.loop-i.invariant.2 in
    record {
      after = c.loop-i.invariant.0 ∙ wiped_all c.loop-i.i c.args.blank c.args.self.now.cells.now (omega arith) (omega arith);
      depth = c.loop-i.invariant.2;
      held = search rules;
      lent = c.loop-i.invariant.3;
    }

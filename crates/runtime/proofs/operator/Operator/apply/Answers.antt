use Rattle.std.proofs.Common.{w32}
use Rattle.std.proofs.lemmas.Int.{wrapping_add_is, wrapping_sub_is}
use Rattle.runtime.proofs.operator.Operator.apply.Goals as goal

pub returns-in-Add : goal.returns-in-Add
returns-in-Add c = rw c.in-Add.is (wrapping_add_is w32 c.args.left c.args.right c.ranges.left c.ranges.right)

pub returns-in-Sub : goal.returns-in-Sub
returns-in-Sub c = rw c.in-Sub.is (wrapping_sub_is w32 c.args.left c.args.right c.ranges.left c.ranges.right)

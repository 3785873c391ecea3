use Rattle.std.specs.Str.Iter.{split_parts_left}
use Rattle.cases.proofs.memory.perform.Given as goal

abbrev pub decreases-loop-action : goal.decreases-loop-action
decreases-loop-action g l = split_parts_left l.case.request.words

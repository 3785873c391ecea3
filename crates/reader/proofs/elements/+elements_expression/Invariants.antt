use Rattle.std.proofs.Common.{◌+◌, ◌*◌}
use Rattle.scanner.specs.Scans.{ahead}
use Rattle.reader.specs.Forms.{grow, count}
use Rattle.reader.proofs.Lists.{Reading}
use Rattle.reader.proofs.elements.+elements_expression.Given as goal

abbrev pub decreases-elements : goal.decreases-elements
decreases-elements l = 2 * l.room + 1

abbrev pub decreases-expression : goal.decreases-expression
decreases-expression l = 2 * l.room

abbrev pub invariant-elements-loop-token : goal.invariant-elements-loop-token
invariant-elements-loop-token l = Reading l.room l.found (grow (ahead l.initial.scanner)) (grow (ahead l.scanner))

abbrev pub decreases-elements-loop-token : goal.decreases-elements-loop-token
decreases-elements-loop-token l = count (grow (ahead l.scanner)).here

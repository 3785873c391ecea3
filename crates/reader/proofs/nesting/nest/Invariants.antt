use Rattle.std.proofs.Common.{◌≡◌, length}
use Rattle.scanner.specs.Scans.{ahead}
use Rattle.reader.specs.Nests.{first_of, nest_faults}
use Rattle.reader.specs.declared.nesting.Nesting.TheVariants.{Before}
use Rattle.reader.proofs.nesting.nest.Given as goal

abbrev pub invariant-loop-token : goal.invariant-loop-token
invariant-loop-token l =
    first_of (nest_faults l.nesting (length l.text) (ahead l.token-iterator.0)) (tt {0}) ≡ first_of (nest_faults Before (length l.text) (ahead l.initial.token-iterator.0)) (tt {0})

use Rattle.std.proofs.Common.{◌≡◌}
use Rattle.scanner.specs.Scans.{left, sound}
use Rattle.scanner.proofs.scan.scan_tokens.Given as goal

abbrev pub invariant-loop-read : goal.invariant-loop-read
invariant-loop-read l = sound (left l.read-iterator) ≡ sound (left l.initial.read-iterator)

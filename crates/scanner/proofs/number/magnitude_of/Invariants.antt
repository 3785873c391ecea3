use Rattle.std.proofs.Common.{◌≡◌, ℕ, pos}
use Rattle.scanner.proofs.Numbers.{Read}
use Rattle.scanner.proofs.number.magnitude_of.Given as goal

abbrev pub invariant-loop-byte : goal.invariant-loop-byte
invariant-loop-byte l = (m : ℕ) × (l.n ≡ pos m) × Read l.bytes m l.byte-index

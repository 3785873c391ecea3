use Rattle.std.proofs.Common.{◌≡◌, ◌+◌, ◌≤◌, drop}
use Rattle.source.specs.Lines.{feeds}
use Rattle.source.proofs.location.count_feeds.Given as goal

abbrev pub invariant-loop-byte : goal.invariant-loop-byte
invariant-loop-byte l = (l.count ≤ l.byte-index) × (l.count + feeds (drop l.byte-index l.bytes) ≡ feeds l.bytes)

use Rattle.std.proofs.Common.{◌≡◌, ◌+◌, ◌≤◌, false, length}
use Rattle.scanner.specs.Scans.{ahead}
use Rattle.source.specs.Cuts.{cut}
use Rattle.source.proofs.Below.{Below}
use Rattle.source.proofs.Standings.{deep, stray, Opened}
use Rattle.source.proofs.texts.first_end.Given as goal

abbrev pub invariant-loop-token : goal.invariant-loop-token
invariant-loop-token l =
    (deep l.standing + length (ahead l.token-iterator.0) ≤ length l.text)
    × Opened l.standing
    × Below (length l.text) (ahead l.token-iterator.0)
    × (cut (deep l.standing) (stray l.standing) (length l.text) (ahead l.token-iterator.0) ≡ cut 0 false (length l.text) (ahead l.initial.token-iterator.0))

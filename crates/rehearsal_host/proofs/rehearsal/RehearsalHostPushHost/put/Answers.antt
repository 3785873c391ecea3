use Rattle.std.proofs.Common.{rules}
use lib.Seq.{take-set-lt}
use Rattle.runtime.proofs.Spares.{drop_more_set}
use Rattle.rehearsal_host.proofs.rehearsal.RehearsalHostPushHost.put.Goals as goal

pub returns-clause-spare : goal.returns-clause-spare
returns-clause-spare c = search (rules, take-set-lt, drop_more_set)

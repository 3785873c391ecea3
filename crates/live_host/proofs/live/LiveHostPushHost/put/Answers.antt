use Rattle.std.proofs.Common.{rules}
use Rattle.std.proofs.lemmas.List.{set_past}
use Rattle.runtime.proofs.Spares.{drop_more_set}
use Rattle.live_host.proofs.live.LiveHostPushHost.put.Goals as goal

pub returns-clause-spare : goal.returns-clause-spare
returns-clause-spare c = search (rules, drop_more_set, set_past)

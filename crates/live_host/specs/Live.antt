-- A live host by its facts, its report, and the free bytes behind it.
use Rattle.std.specs.Borrow.{GName}
use Rattle.std.specs.Prelude.{ℕ, List, drop, ℤ}
use Rattle.stack.specs.Held.{cells, depth, entries, lent}
use Rattle.live_host.specs.Records as Records
use Rattle.live_host.specs.declared.live.LiveHost.{LiveHost}

abbrev pub facts_of : LiveHost → List ℤ
facts_of h = Records.facts_of h.source

abbrev pub report_of : LiveHost → List ℕ
report_of h = entries h.report

abbrev pub spare_of : LiveHost → List ℕ
spare_of h = drop (depth h.report) (cells h.report)

abbrev pub place_of : LiveHost → GName
place_of h = lent h.report

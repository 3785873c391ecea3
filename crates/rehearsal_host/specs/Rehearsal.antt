-- A rehearsal host by its facts, its report, and the free bytes behind it.
use Rattle.std.specs.Prelude.{ℕ, List, take, drop, ℤ}
use Rattle.rehearsal_host.specs.Filled.{filled_of}
use Rattle.rehearsal_host.specs.declared.rehearsal.RehearsalHost.{RehearsalHost}

abbrev pub facts_of : RehearsalHost → List ℤ
facts_of h = filled_of h.facts

abbrev pub report_of : RehearsalHost → List ℕ
report_of h = filled_of h.report

abbrev pub spare_of : RehearsalHost → List ℕ
spare_of h = drop h.report.len (take h.capacity h.report.items)

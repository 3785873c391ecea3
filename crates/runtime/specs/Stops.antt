-- The number of each stop.
use Rattle.std.specs.Prelude.{ℕ}
use Rattle.runtime.specs.declared.stop.Stop.{Stop}
use Rattle.runtime.specs.declared.stop.Stop.TheVariants.{Allowance, PendingFull, StackFull, Address, MemoryFull, NegativeSize, NotByte, NoFact, ReportFull, BadCell, BadWord, FewCells}

abbrev pub number_of : Stop → ℕ
number_of Allowance = 20
number_of PendingFull = 21
number_of StackFull = 22
number_of Address = 23
number_of MemoryFull = 24
number_of NegativeSize = 25
number_of NotByte = 26
number_of NoFact = 27
number_of ReportFull = 28
number_of BadCell = 29
number_of BadWord = 30
number_of FewCells = 31

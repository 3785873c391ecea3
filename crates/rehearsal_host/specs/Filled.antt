-- An array that is filled from the front, by what it holds.
use Rattle.std.specs.Prelude.{ℕ, List, take}
use Rattle.rehearsal_host.specs.declared.filled.Filled.{Filled}

abbrev pub filled_of : {T : Type 0} {N : ℕ} → Filled T N → List T
filled_of f = take f.len f.items

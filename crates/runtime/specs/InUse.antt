-- The cells of a memory that are in use, to be read alone.
use Rattle.std.specs.Prelude.{List, take, ℤ}
use Rattle.runtime.specs.declared.in_use.InUse.{InUse}
use Rattle.runtime.specs.declared.memory.Memory.{Ghosts}

module _ {M : Type 0} {G : Ghosts M} where
  -- the cells below the top
  abbrev pub below : InUse M G → List ℤ
  below u = take u.top (G.cells u.memory.now)

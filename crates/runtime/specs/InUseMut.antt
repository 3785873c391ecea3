-- The cells of a memory that are in use, and what a call on them keeps.
use Rattle.std.specs.Borrow.{GName}
use Rattle.std.specs.Prelude.{◌≡◌, ℕ, List, take, ℤ}
use Rattle.runtime.specs.Meanings.{Kept}
use Rattle.runtime.specs.declared.in_use_mut.InUseMut.{InUseMut}
use Rattle.runtime.specs.declared.memory.Memory.{Ghosts}

module _ {M : Type 0} {G : Ghosts M} where
  -- all cells of the memory, in use or not
  abbrev pub cells : InUseMut M G → List ℤ
  cells u = G.cells u.memory.now

  abbrev pub top : InUseMut M G → ℕ
  top u = u.top

  -- the cells below the top
  abbrev pub below : InUseMut M G → List ℤ
  below u = take u.top (G.cells u.memory.now)

  -- which memory was lent
  abbrev pub lent : InUseMut M G → GName
  lent u = u.memory.ghost_name

  -- what a call leaves as it was: the cells from the new top on, what of the buffer lies outside the cells, and which memory it is
  pub record Keeps (before after : InUseMut M G) : Type 0 where
    pub kept : Kept before.top (G.cells before.memory.now) after.top (G.cells after.memory.now)
    pub around : G.around after.memory.now ≡ G.around before.memory.now
    pub lent : after.memory.ghost_name ≡ before.memory.ghost_name

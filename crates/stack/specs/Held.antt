-- A stack by its cells and its depth, and what it holds from the top down.
use Rattle.std.specs.Borrow.{GName}
use Rattle.std.specs.Prelude.{ℕ, List, [], ◌∷◌, reverse, take, Some, None, Option}
use Rattle.stack.specs.declared.Stack.{Stack}

module _ {T : Type 0} where
  -- all the lent cells, in use or not
  abbrev pub cells : Stack T → List T
  cells s = s.cells.now

  abbrev pub depth : Stack T → ℕ
  depth s = s.depth

  -- which cells were lent: no call puts others in their place
  abbrev pub lent : Stack T → GName
  lent s = s.cells.ghost_name

  -- the entries, the bottom first
  abbrev pub entries : Stack T → List T
  entries s = take s.depth s.cells.now

  -- the entries, the top first
  abbrev pub held : Stack T → List T
  held s = reverse (take s.depth s.cells.now)

  abbrev pub first : List T → Option T
  first [] = None
  first (x ∷ xs) = Some x

  abbrev pub rest : List T → List T
  rest [] = []
  rest (x ∷ xs) = xs

-- What a memory and a report keep while a run works on them.
use Rattle.std.specs.Borrow.{GName}
use Rattle.std.specs.Prelude.{◌≡◌, ℕ, ◌+◌, ◌-◌, ◌≤◌, List, length, drop, ℤ}

-- which memory it is, and what of the lent buffer lies outside its cells: no call alters either
pub record Around : Type 0 where
  pub place : GName
  pub rest : List ℤ

-- cells m with a top before, cells m' with a top after: as many cells, the top no lower, every cell from the new top on as it was
pub record Kept (top : ℕ) (m : List ℤ) (top' : ℕ) (m' : List ℤ) : Type 0 where
  pub higher : top ≤ top'
  pub long : length m' ≡ length m
  pub rest : drop top' m' ≡ drop top' m

-- a report and its spare bytes before and after: it only grows, into the spare bytes, and what is still spare is as it was
pub record Spared (report spare report' spare' : List ℕ) : Type 0 where
  pub grows : length report ≤ length report'
  pub fits : length report' + length spare' ≡ length report + length spare
  pub left : spare' ≡ drop (length report' - length report) spare

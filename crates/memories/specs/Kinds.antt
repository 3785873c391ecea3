-- What of a lent buffer lies behind its cells. What counts to a limit stays shut, so that no proof counts along.
use Rattle.std.specs.Borrow.{GName}
use Rattle.std.specs.Prelude.{ℕ, ◌*◌, ◌/◌, min, List, map, length, drop, ℤ, pos}
use Rattle.runtime.specs.Meanings.{Around}

-- the words behind n cells
unfoldable pub behind : ℕ → List ℤ → List ℤ
behind n xs = drop n xs

-- the bytes behind n cells at most, of four bytes each
unfoldable pub bytes_behind : ℕ → List ℕ → List ℤ
bytes_behind n bs = map pos (drop (4 * min n (length bs / 4)) bs)

-- which buffer it is, and what lies behind the cells
abbrev pub around : GName → List ℤ → Around
around place rest = record { place = place; rest = rest }

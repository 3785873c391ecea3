-- Memory below the top: reading and writing at base plus index, and new cells.
use Rattle.std.specs.Prelude.{ℕ, ◌+◌, Bool, false, cond, List, ◌++◌, length, drop, replicate, ℤ, pos, negsuc, ◌+ℤ◌, None, Ok, Err, Option, Result, nat_le, nat_lt, slice_set}
use Rattle.std.specs.Int.{int_wrap, w32}
use Rattle.std.specs.Bool.{then_some}
use Rattle.std.specs.List.{slice_get}
use Rattle.std.specs.Option.{ok_or}
use Rattle.runtime.specs.declared.stop.Stop.{Stop}
use Rattle.runtime.specs.declared.stop.Stop.TheVariants.{Address, MemoryFull, NegativeSize}

-- what a list has at an integer
abbrev pub nth_integer : List ℤ → ℤ → Option ℤ
nth_integer xs (pos n) = slice_get xs n
nth_integer xs (negsuc n) = None

abbrev pub inside : List ℤ → ℤ → Bool
inside xs (pos n) = nat_lt n (length xs)
inside xs (negsuc n) = false

abbrev pub set_integer : List ℤ → ℤ → ℤ → List ℤ
set_integer xs (pos n) v = slice_set xs n v
set_integer xs (negsuc n) v = xs

-- what an operation gives, and the memory below the top after it; a stop changes nothing
pub record Effect : Type 0 where
  pub result : Result ℤ Stop
  pub below : List ℤ

abbrev pub unchanged : Stop → List ℤ → Effect
unchanged stop below = record { result = Err stop; below = below }

-- a memory whose cells below the top are these; the others are as they were
abbrev pub over : List ℤ → List ℤ → List ℤ
over cells below = below ++ drop (length below) cells

-- an address is base plus index, wrapped to 32 bits
abbrev pub address : ℤ → ℤ → ℤ
address base index = int_wrap w32 (base +ℤ index)

-- the place at an integer, where it lies below the top
abbrev pub place : ℕ → ℤ → Option ℕ
place top (pos n) = then_some (nat_lt n top) n
place top (negsuc n) = None

-- the cell at base plus index
abbrev pub fetched : List ℤ → ℤ → ℤ → Result ℤ Stop
fetched below base index = ok_or (nth_integer below (address base index)) Address

abbrev pub stored_at : List ℤ → ℤ → ℤ → Effect
stored_at below a v = cond (inside below a) (record { result = Ok v; below = set_integer below a v }) (unchanged Address below)

-- v goes to the cell at base plus index, and is the value
abbrev pub stored : List ℤ → ℤ → ℤ → ℤ → Effect
stored below base index v = stored_at below (address base index) v

-- n new cells that hold 0, in a memory of `size` cells; the value is the old top
abbrev pub grown : ℕ → List ℤ → ℤ → Effect
grown size below (pos n) =
    cond (nat_le (length below + n) size) (record { result = Ok (pos (length below)); below = below ++ replicate n (pos 0) }) (unchanged MemoryFull below)
grown size below (negsuc n) = unchanged NegativeSize below

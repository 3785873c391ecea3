-- How a word holds an opcode in its low 8 bits and a signed argument of 24 bits above them.
use Rattle.std.specs.Prelude.{ℕ, ◌+◌, ◌-◌, ◌*◌, ◌/◌, ◌%◌, Bool, cond, ℤ, pos, negsuc, Option, nat_lt}
use Rattle.std.specs.Bool.{then_some}
use Rattle.scode.specs.declared.words.Fields.{Fields}

-- 24 bits with a sign
abbrev pub signed24 : ℕ → ℤ
signed24 n = cond (nat_lt n 8388608) (pos n) (negsuc (16777215 - n))

-- the 24 bits of a number
abbrev pub bits24 : ℤ → ℕ
bits24 (pos n) = n
bits24 (negsuc n) = 16777215 - n

-- negsuc n is -(n + 1), so both ways have the same limit
abbrev pub fits24 : ℤ → Bool
fits24 (pos n) = nat_lt n 8388608
fits24 (negsuc n) = nat_lt n 8388608

abbrev pub both : ℕ → ℤ → Fields
both op a = record { opcode = op; argument = a }

abbrev pub fields : ℕ → Fields
fields w = both (w % 256) (signed24 (w / 256))

-- no word where the argument needs more than 24 bits
abbrev pub joined : Fields → Option ℕ
joined f = then_some (fits24 f.argument) (f.opcode + bits24 f.argument * 256)

-- The number of each system call, and the system call of a number.
use Rattle.std.specs.Prelude.{◌≡◌, ◌==◌, ℕ, ℤ, pos, negsuc, cond, Option, Some, None, Result, ok_or}
use Rattle.scode.specs.declared.system_call.SystemCall.{SystemCall}
use Rattle.scode.specs.declared.system_call.SystemCall.TheVariants.{Number, Byte, Fact}
use Rattle.scode.specs.declared.unknown.UnknownNumber.{UnknownNumber}

abbrev pub system_number : SystemCall → ℕ
system_number Number = 1
system_number Byte = 2
system_number Fact = 3

-- the system call of that number, if one has it
abbrev pub system_call : ℤ → Option SystemCall
system_call (pos n) = cond (n == 1) (Some Number) (cond (n == 2) (Some Byte) (cond (n == 3) (Some Fact) None))
system_call (negsuc n) = None

-- the result is that system call, or says that the number stands for nothing
abbrev pub NamesSystemCall : ℤ → Result SystemCall UnknownNumber → Type 0
NamesSystemCall n r = r ≡ ok_or (system_call n) (record { 0 = n })

-- What the operators give. Numbers are integers; a sum or a difference wraps to 32 bits.
use Rattle.std.specs.Prelude.{Bool, true, false, ℤ, pos, negsuc, ◌+ℤ◌, ◌-ℤ◌, ◌==◌, int_lt}
use Rattle.std.specs.Int.{int_wrap, w32}
use Rattle.runtime.specs.declared.operator.Operator.{Operator}
use Rattle.runtime.specs.declared.operator.Operator.TheVariants.{Add, Sub, Equal, Less, Greater}

abbrev pub truth : Bool → ℤ
truth true = pos 1
truth false = pos 0

abbrev pub zero_z : ℤ → Bool
zero_z (pos n) = n == 0
zero_z (negsuc n) = false

abbrev pub same_z : ℤ → ℤ → Bool
same_z (pos a) (pos b) = a == b
same_z (pos a) (negsuc b) = false
same_z (negsuc a) (pos b) = false
same_z (negsuc a) (negsuc b) = a == b

abbrev pub applied : Operator → ℤ → ℤ → ℤ
applied Add a b = int_wrap w32 (a +ℤ b)
applied Sub a b = int_wrap w32 (a -ℤ b)
applied Equal a b = truth (same_z a b)
applied Less a b = truth (int_lt a b)
applied Greater a b = truth (int_lt b a)

-- The fields come back from a joined word, and the word by bits is the word by arithmetic.
use Rattle.std.proofs.Common.{◌≡◌, ℕ, ◌+◌, ◌-◌, ◌*◌, ◌%◌, ◌<◌, ltb, ℤ, pos, negsuc, IfSome, arith, w32, of_z, bit_or}
use Rattle.std.specs.Bool.{then_some}
use Rattle.std.specs.Int.Bits.{or_shifted_r}
use Rattle.std.proofs.lemmas.Grind.{common_steps}
use Rattle.scode.specs.declared.words.Fields.{Fields}
use Rattle.scode.specs.Words.{fits24, both, fields, joined}

-- the fields come back from a word
pub joined_again : (f : Fields) → f.opcode < 256 → IfSome (joined f) (λ w. fields w ≡ f)
joined_again f h = grind (arith, common_steps)

-- an opcode and what is shifted above it have no bit in common
or_is_sum : (op m n : ℕ) → op < 256 → n ≡ m * 256 → bit_or op n ≡ op + m * 256
or_is_sum op m n h e = grind (arith, or_shifted_r m 8 op h)

-- what is only given where the argument fits need only agree there
if_fits : (k x y : ℕ) → (k < 8388608 → x ≡ y) → then_some (ltb k 8388608) x ≡ then_some (ltb k 8388608) y
if_fits k x y h = grind (arith, common_steps)

pub word_by_bits : (op : ℕ) (a : ℤ) → op < 256 → then_some (fits24 a) (bit_or op (of_z w32 a * 256 % 4294967296)) ≡ joined (both op a)
word_by_bits op (pos k) h = if_fits k _ _ (λ b. or_is_sum op k _ h (omega arith))
word_by_bits op (negsuc k) h = if_fits k _ _ (λ b. or_is_sum op (16777215 - k) _ h (omega arith))

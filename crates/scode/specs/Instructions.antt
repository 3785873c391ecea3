-- What each instruction is called, which word says it, and which instruction a word says.
use Rattle.std.specs.Prelude.{ℕ, ◌+◌, ◌*◌, ◌/◌, ◌%◌, Bool, false, not, ◌&&◌, List, ℤ, pos, negsuc, Some, None, codes, Option, ◌==◌, nat_le, nat_lt, is_some, unwrap_or, option_and_then}
use Rattle.std.specs.Bool.{then_some}
use Rattle.std.specs.Option.{option_map}
use Rattle.scode.specs.declared.instruction.Instruction.{Instruction}
use Rattle.scode.specs.declared.instruction.Instruction.TheVariants.{New, Add, Sub, Eq, Lt, Gt, Call, Get, Put, Lit, Ldx, Stx, Fun, Sys, Ld, St, Ldy, Sty, Jmp, Jf, Pop, Ret, Bad}
use Rattle.scode.specs.declared.words.Fields.{Fields}
use Rattle.scode.specs.declared.opcode.Opcode.{Opcode}
use Rattle.scode.specs.declared.opcode.Opcode.TheVariants as op
use Rattle.scode.specs.Opcode.{number_of, opcode_of}
use Rattle.scode.specs.SystemCall.{system_call, system_number}
use Rattle.scode.specs.Words.{both, fields, joined}

abbrev pub name_of : Instruction → List ℕ
name_of New = codes "new"
name_of Add = codes "add"
name_of Sub = codes "sub"
name_of Eq = codes "eq"
name_of Lt = codes "lt"
name_of Gt = codes "gt"
name_of (Call a) = codes "call"
name_of (Get k) = codes "get"
name_of (Put k) = codes "put"
name_of (Lit v) = codes "lit"
name_of (Ldx k) = codes "ldx"
name_of (Stx k) = codes "stx"
name_of (Fun f v) = codes "fun"
name_of (Sys s) = codes "sys"
name_of (Ld a) = codes "ld"
name_of (St a) = codes "st"
name_of (Ldy a) = codes "ldy"
name_of (Sty a) = codes "sty"
name_of (Jmp d) = codes "jmp"
name_of (Jf d) = codes "jf"
name_of Pop = codes "pop"
name_of (Ret v) = codes "ret"
name_of (Bad w) = codes "bad"

abbrev pub zero_z : ℤ → Bool
zero_z (pos n) = n == 0
zero_z (negsuc n) = false

-- an instruction without argument
abbrev pub bare : ℤ → Instruction → Option Instruction
bare a i = then_some (zero_z a) i

-- how many variables: a distance is at least 1, and a return may drop none
abbrev pub is_count : ℕ → ℕ → Bool
is_count least k = nat_le least k && nat_le k 64

abbrev pub count_in : ℕ → ℤ → Option ℕ
count_in least (pos k) = then_some (is_count least k) k
count_in least (negsuc k) = None

-- the address of a word or of memory
abbrev pub place_in : ℤ → Option ℕ
place_in (pos n) = Some n
place_in (negsuc n) = None

-- at most 15 formals, at most 64 variables, the formals among them
abbrev pub is_head : ℕ → ℕ → Bool
is_head formals variables = nat_le formals 15 && (nat_le variables 64 && nat_le formals variables)

abbrev pub fun_in : ℤ → Option Instruction
fun_in (pos n) = then_some (is_head (n / 256) (n % 256)) (Fun (n / 256) (n % 256))
fun_in (negsuc n) = None

-- each opcode with what its argument must be
abbrev pub named : Opcode → ℤ → Option Instruction
named op.New a = bare a New
named op.Add a = bare a Add
named op.Sub a = bare a Sub
named op.Eq a = bare a Eq
named op.Lt a = bare a Lt
named op.Gt a = bare a Gt
named op.Call a = option_map Call (place_in a)
named op.Get a = option_map Get (count_in 1 a)
named op.Put a = option_map Put (count_in 1 a)
named op.Lit a = Some (Lit a)
named op.Ldx a = option_map Ldx (count_in 1 a)
named op.Stx a = option_map Stx (count_in 1 a)
named op.Fun a = fun_in a
named op.Sys a = option_map Sys (system_call a)
named op.Ld a = option_map Ld (place_in a)
named op.St a = option_map St (place_in a)
named op.Ldy a = option_map Ldy (place_in a)
named op.Sty a = option_map Sty (place_in a)
named op.Jmp a = Some (Jmp a)
named op.Jf a = Some (Jf a)
named op.Pop a = bare a Pop
named op.Ret a = option_map Ret (count_in 0 a)

-- the instruction that the fields say, if a run could perform it
abbrev pub known_as : Fields → Option Instruction
known_as f = option_and_then (λ opcode. named opcode f.argument) (opcode_of f.opcode)

abbrev pub decoded : ℕ → Instruction
decoded w = unwrap_or (known_as (fields w)) (Bad w)

-- the arguments that a word can hold for a count, an address and the head of a function
abbrev pub count_argument : ℕ → ℕ → Option ℤ
count_argument least k = then_some (is_count least k) (pos k)

abbrev pub place_argument : ℕ → Option ℤ
place_argument n = then_some (nat_lt n 8388608) (pos n)

abbrev pub head_argument : ℕ → ℕ → Option ℤ
head_argument f v = then_some (is_head f v) (pos (256 * f + v))

-- the fields of a word of 32 bits, where they say no other instruction
abbrev pub unknown_fields : ℕ → Option Fields
unknown_fields w = then_some (nat_lt w 4294967296 && not (is_some (known_as (fields w)))) (fields w)

-- the opcode, with the argument if a word can hold it
abbrev pub with : Opcode → Option ℤ → Option Fields
with opcode a = option_map (both (number_of opcode)) a

-- opcode and argument of an instruction, if it has a word
abbrev pub fields_of : Instruction → Option Fields
fields_of New = with op.New (Some (pos 0))
fields_of Add = with op.Add (Some (pos 0))
fields_of Sub = with op.Sub (Some (pos 0))
fields_of Eq = with op.Eq (Some (pos 0))
fields_of Lt = with op.Lt (Some (pos 0))
fields_of Gt = with op.Gt (Some (pos 0))
fields_of (Call n) = with op.Call (place_argument n)
fields_of (Get k) = with op.Get (count_argument 1 k)
fields_of (Put k) = with op.Put (count_argument 1 k)
fields_of (Lit v) = with op.Lit (Some v)
fields_of (Ldx k) = with op.Ldx (count_argument 1 k)
fields_of (Stx k) = with op.Stx (count_argument 1 k)
fields_of (Fun f v) = with op.Fun (head_argument f v)
fields_of (Sys s) = with op.Sys (Some (pos (system_number s)))
fields_of (Ld n) = with op.Ld (place_argument n)
fields_of (St n) = with op.St (place_argument n)
fields_of (Ldy n) = with op.Ldy (place_argument n)
fields_of (Sty n) = with op.Sty (place_argument n)
fields_of (Jmp d) = with op.Jmp (Some d)
fields_of (Jf d) = with op.Jf (Some d)
fields_of Pop = with op.Pop (Some (pos 0))
fields_of (Ret v) = with op.Ret (count_argument 0 v)
fields_of (Bad w) = unknown_fields w

abbrev pub encoded : Instruction → Option ℕ
encoded i = option_and_then joined (fields_of i)

-- The number of each opcode, and the opcode of a number.
use Rattle.std.specs.Prelude.{◌≡◌, ◌==◌, ℕ, List, [], ◌∷◌, pos, find, Option, Result, ok_or}
use Rattle.scode.specs.declared.opcode.Opcode.{Opcode}
use Rattle.scode.specs.declared.opcode.Opcode.TheVariants.{New, Add, Sub, Eq, Lt, Gt, Call, Get, Put, Lit, Ldx, Stx, Fun, Sys, Ld, St, Ldy, Sty, Jmp, Jf, Pop, Ret}
use Rattle.scode.specs.declared.unknown.UnknownNumber.{UnknownNumber}

abbrev pub number_of : Opcode → ℕ
number_of New = 5
number_of Add = 6
number_of Sub = 7
number_of Eq = 10
number_of Lt = 11
number_of Gt = 12
number_of Call = 13
number_of Get = 14
number_of Put = 15
number_of Lit = 16
number_of Ldx = 17
number_of Stx = 18
number_of Fun = 19
number_of Sys = 20
number_of Ld = 25
number_of St = 26
number_of Ldy = 27
number_of Sty = 28
number_of Jmp = 33
number_of Jf = 34
number_of Pop = 35
number_of Ret = 36

abbrev pub all_opcodes : List Opcode
all_opcodes = New ∷ Add ∷ Sub ∷ Eq ∷ Lt ∷ Gt ∷ Call ∷ Get ∷ Put ∷ Lit ∷ Ldx ∷ Stx ∷ Fun ∷ Sys ∷ Ld ∷ St ∷ Ldy ∷ Sty ∷ Jmp ∷ Jf ∷ Pop ∷ Ret ∷ []

-- the opcode of that number, if one has it
abbrev pub opcode_of : ℕ → Option Opcode
opcode_of n = find (λ opcode. number_of opcode == n) all_opcodes

-- the result is that opcode, or says that the number stands for nothing
abbrev pub NamesOpcode : ℕ → Result Opcode UnknownNumber → Type 0
NamesOpcode n r = r ≡ ok_or (opcode_of n) (record { 0 = pos n })

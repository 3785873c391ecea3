-- Which elements each head takes.
use Rattle.std.specs.Prelude.{ℕ, Bool, true, false, ◌&&◌, pos, Some, None, Option, ◌==◌, int_le}
use Rattle.reader.specs.declared.keyword.Keyword.{Keyword}
use Rattle.reader.specs.declared.keyword.Keyword.TheVariants.{Def, Let, Enum, If, While, Do, Set, Vec, Setv, New, Sys, Add, Sub, Eq, Lt, Gt}
use Rattle.reader.specs.declared.shape.Lead.{Lead}
use Rattle.reader.specs.declared.shape.Lead.TheVariants.{Expression, Variable, SystemCall}
use Rattle.reader.specs.declared.shape.Leading.{Leading}
use Rattle.reader.specs.declared.shape.Leading.TheVariants.{Nothing, Name, Number, Form}
use Rattle.reader.specs.declared.shape.Operands.{Operands}
use Rattle.reader.specs.declared.shape.Operands.TheVariants.{Exactly, AnyNumber}
use Rattle.reader.specs.declared.shape.Shape.{Shape}

abbrev pub row : Lead → Operands → Option Shape
row lead operands = Some (record { lead = lead; operands = operands })

-- the table
abbrev pub shape : Option Keyword → Option Shape
shape (Some If) = row Expression (Exactly 3)
shape (Some While) = row Expression (Exactly 2)
shape (Some Do) = row Expression AnyNumber
shape (Some Set) = row Variable (Exactly 2)
shape (Some Vec) = row Variable (Exactly 2)
shape (Some Setv) = row Variable (Exactly 3)
shape (Some New) = row Expression (Exactly 1)
shape (Some Sys) = row SystemCall (Exactly 2)
shape (Some Add) = row Expression (Exactly 2)
shape (Some Sub) = row Expression (Exactly 2)
shape (Some Eq) = row Expression (Exactly 2)
shape (Some Lt) = row Expression (Exactly 2)
shape (Some Gt) = row Expression (Exactly 2)
shape (Some Def) = None
shape (Some Let) = None
shape (Some Enum) = None
shape None = row Expression AnyNumber

abbrev pub is_name : Leading → Bool
is_name Nothing = false
is_name Name = true
is_name (Number n) = false
is_name Form = false

abbrev pub is_call_number : Leading → Bool
is_call_number Nothing = false
is_call_number Name = false
is_call_number (Number n) = int_le (pos 1) n && int_le n (pos 3)
is_call_number Form = false

abbrev pub takes_lead : Lead → Leading → Bool
takes_lead Expression l = true
takes_lead Variable l = is_name l
takes_lead SystemCall l = is_call_number l

abbrev pub counts : Operands → ℕ → Bool
counts (Exactly n) count = count == n
counts AnyNumber count = true

abbrev pub takes : Shape → Leading → ℕ → Bool
takes s l count = counts s.operands count && takes_lead s.lead l

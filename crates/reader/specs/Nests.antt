-- One closed form, and what stands in a text beside it.
use Rattle.std.specs.Prelude.{ℕ, ◌+◌, ◌-◌, cond, List, [], ◌∷◌, ◌++◌, Ok, Err, Result, nat_le}
use Rattle.scanner.specs.Faults.{when}
use Rattle.scanner.specs.Words.{Lexeme, opens, closes, name, number}
use Rattle.reader.specs.declared.fault.FormFault.{FormFault}
use Rattle.reader.specs.declared.fault.FormFault.TheVariants.{NotOneForm, TooDeep}
use Rattle.reader.specs.declared.nesting.Nesting.{Nesting}
use Rattle.reader.specs.declared.nesting.Nesting.TheVariants.{Before, Inside, After}

-- the first fault, or what there is without one
abbrev pub first_of : {F X : Type 0} → List F → X → Result X F
first_of [] x = Ok x
first_of (f ∷ fs) x = Err f

-- where the next token stands
abbrev pub turn : Nesting → Lexeme → Nesting
turn Before (opens p) = Inside 1
turn Before (closes p) = Before
turn Before (name w p) = Before
turn Before (number w v p) = Before
turn (Inside d) (opens p) = Inside (d + 1)
turn (Inside d) (closes p) = cond (nat_le d 1) After (Inside (d - 1))
turn (Inside d) (name w p) = Inside d
turn (Inside d) (number w v p) = Inside d
turn After (opens p) = After
turn After (closes p) = After
turn After (name w p) = After
turn After (number w v p) = After

-- a token outside the form is stray, and so is a parenthesis beyond the 32nd
abbrev pub turn_faults : Nesting → Lexeme → List FormFault
turn_faults Before (opens p) = []
turn_faults Before (closes p) = NotOneForm p ∷ []
turn_faults Before (name w p) = NotOneForm p ∷ []
turn_faults Before (number w v p) = NotOneForm p ∷ []
turn_faults (Inside d) (opens p) = when (nat_le 32 d) (TooDeep p)
turn_faults (Inside d) (closes p) = []
turn_faults (Inside d) (name w p) = []
turn_faults (Inside d) (number w v p) = []
turn_faults After (opens p) = NotOneForm p ∷ []
turn_faults After (closes p) = NotOneForm p ∷ []
turn_faults After (name w p) = NotOneForm p ∷ []
turn_faults After (number w v p) = NotOneForm p ∷ []

-- the text ends at e
abbrev pub end_faults : Nesting → ℕ → List FormFault
end_faults Before e = NotOneForm e ∷ []
end_faults (Inside d) e = NotOneForm e ∷ []
end_faults After e = []

abbrev pub nest_faults : Nesting → ℕ → List Lexeme → List FormFault
nest_faults s e [] = end_faults s e
nest_faults s e (l ∷ ls) = turn_faults s l ++ nest_faults (turn s l) e ls

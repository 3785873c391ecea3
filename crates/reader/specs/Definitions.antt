-- The definition that the elements of a form make.
use Rattle.std.specs.Prelude.{ℕ, ◌+◌, ◌-◌, Bool, true, false, cond, ◌&&◌, List, [], ◌∷◌, ◌++◌, map, ℤ, pos, ◌+ℤ◌, Some, None, Ok, Err, Option, Result, ◌==◌, int_le, nat_le}
use Rattle.scanner.specs.declared.token.Word.{Word}
use Rattle.reader.specs.Forms.{Forest, none, named, numbered, form, forest_ahead, tail, count, only_names, misfits}
use Rattle.reader.specs.Keywords.{keyword}
use Rattle.reader.specs.declared.definition.Definition.{Definition}
use Rattle.reader.specs.declared.definition.Definition.TheVariants.{Function, Global, Enumeration}
use Rattle.reader.specs.declared.definition.Function as code
use Rattle.reader.specs.declared.definition.Names.{Names}
use Rattle.reader.specs.declared.fault.FormFault.{FormFault}
use Rattle.reader.specs.declared.fault.FormFault.TheVariants.{NoShape, LastOutOfRange}
use Rattle.reader.specs.declared.keyword.Keyword.{Keyword}
use Rattle.reader.specs.declared.keyword.Keyword.TheVariants.{Def, Let, Enum, If, While, Do, Set, Vec, Setv, New, Sys, Add, Sub, Eq, Lt, Gt}

-- a name with its place
pub record Named : Type 0 where
  pub bytes : List ℕ
  pub place : ℕ

abbrev pub a_name : List ℕ → ℕ → Named
a_name w p = record { bytes = w; place = p }

-- a function with its formals, its locals and its body; a global; names that count upward from a number
pub data Defined : Type 0 where
  function : Named → List Named → List Named → Forest → Defined
  global : Named → Defined
  enumeration : ℤ → List Named → Defined

-- the names at the front
abbrev pub names_in : Forest → List Named
names_in none = []
names_in (named w p rest) = a_name w p ∷ names_in rest
names_in (numbered w v p rest) = []
names_in (form p f rest) = []

-- the first element: whether it is a name, a number or a form, and what it holds
abbrev pub is_named : Forest → Bool
is_named none = false
is_named (named w p rest) = true
is_named (numbered w v p rest) = false
is_named (form p f rest) = false

abbrev pub is_numbered : Forest → Bool
is_numbered none = false
is_numbered (named w p rest) = false
is_numbered (numbered w v p rest) = true
is_numbered (form p f rest) = false

abbrev pub is_form : Forest → Bool
is_form none = false
is_form (named w p rest) = false
is_form (numbered w v p rest) = false
is_form (form p f rest) = true

abbrev pub first_name : Forest → Named
first_name none = a_name [] 0
first_name (named w p rest) = a_name w p
first_name (numbered w v p rest) = a_name [] 0
first_name (form p f rest) = a_name [] 0

abbrev pub first_value : Forest → ℤ
first_value none = pos 0
first_value (named w p rest) = pos 0
first_value (numbered w v p rest) = v
first_value (form p f rest) = pos 0

abbrev pub first_inside : Forest → Forest
first_inside none = none
first_inside (named w p rest) = none
first_inside (numbered w v p rest) = none
first_inside (form p f rest) = f

abbrev pub first_place : Forest → ℕ
first_place none = 0
first_place (named w p rest) = p
first_place (numbered w v p rest) = p
first_place (form p f rest) = p

abbrev pub unless : {F : Type 0} → Bool → F → List F
unless true f = []
unless false f = f ∷ []

-- The elements behind `def`: a name, two lists and one expression. The lists are of names, at most 15 formals and
-- at most 64 formals and locals together.
abbrev pub formals : Forest → Forest
formals rest = first_inside (tail rest)

abbrev pub locals : Forest → Forest
locals rest = first_inside (tail (tail rest))

abbrev pub body : Forest → Forest
body rest = tail (tail (tail rest))

abbrev pub function_fits : Forest → Bool
function_fits rest = is_named rest && (is_form (tail rest) && (is_form (tail (tail rest)) && count (body rest) == 1))

abbrev pub formals_fit : Forest → Bool
formals_fit rest = only_names (formals rest) && nat_le (count (formals rest)) 15

abbrev pub locals_fit : Forest → Bool
locals_fit rest = only_names (locals rest) && nat_le (count (formals rest) + count (locals rest)) 64

abbrev pub parts_faults : Forest → List FormFault
parts_faults rest =
    unless (formals_fit rest) (NoShape (first_place (tail rest)))
    ++ (unless (locals_fit rest) (NoShape (first_place (tail (tail rest)))) ++ map NoShape (misfits (body rest)))

abbrev pub function_faults : ℕ → Forest → List FormFault
function_faults p rest = cond (function_fits rest) (parts_faults rest) (NoShape p ∷ [])

abbrev pub function_defined : Forest → Defined
function_defined rest = function (first_name rest) (names_in (formals rest)) (names_in (locals rest)) (body rest)

-- the elements behind `let`: a name
abbrev pub global_faults : ℕ → Forest → List FormFault
global_faults p rest = unless (is_named rest && count rest == 1) (NoShape p)

abbrev pub global_defined : Forest → Defined
global_defined rest = global (first_name rest)

-- the elements behind `enum`: a number and names, at least one, of which the last stands for at most 8,388,607
abbrev pub enumeration_fits : Forest → Bool
enumeration_fits rest = is_numbered rest && (only_names (tail rest) && nat_le 1 (count (tail rest)))

abbrev pub last_value : Forest → ℤ
last_value rest = first_value rest +ℤ pos (count (tail rest) - 1)

abbrev pub enumeration_faults : ℕ → Forest → List FormFault
enumeration_faults p rest = cond (enumeration_fits rest) (unless (int_le (last_value rest) (pos 8388607)) (LastOutOfRange (first_place rest))) (NoShape p ∷ [])

abbrev pub enumeration_defined : Forest → Defined
enumeration_defined rest = enumeration (first_value rest) (names_in (tail rest))

-- what a form is by its head
pub data Kind : Type 0 where
  functions globals enumerations others : Kind

abbrev pub kind : Option Keyword → Kind
kind (Some Def) = functions
kind (Some Let) = globals
kind (Some Enum) = enumerations
kind (Some If) = others
kind (Some While) = others
kind (Some Do) = others
kind (Some Set) = others
kind (Some Vec) = others
kind (Some Setv) = others
kind (Some New) = others
kind (Some Sys) = others
kind (Some Add) = others
kind (Some Sub) = others
kind (Some Eq) = others
kind (Some Lt) = others
kind (Some Gt) = others
kind None = others

abbrev pub kind_faults : Kind → ℕ → Forest → List FormFault
kind_faults functions p rest = function_faults p rest
kind_faults globals p rest = global_faults p rest
kind_faults enumerations p rest = enumeration_faults p rest
kind_faults others p rest = NoShape p ∷ []

abbrev pub kind_defined : Kind → Forest → Defined
kind_defined functions rest = function_defined rest
kind_defined globals rest = global_defined rest
kind_defined enumerations rest = enumeration_defined rest
kind_defined others rest = global (a_name [] 0)

abbrev pub head_kind : Forest → Kind
head_kind none = others
head_kind (named w p rest) = kind (keyword w)
head_kind (numbered w v p rest) = others
head_kind (form p f rest) = others

-- all faults of a form at p with the elements f, and what it defines where it has none
abbrev pub definition_faults : ℕ → Forest → List FormFault
definition_faults p f = kind_faults (head_kind f) p (tail f)

abbrev pub defined : Forest → Defined
defined f = kind_defined (head_kind f) (tail f)

-- what the reader hands on, as the definitions see it
abbrev pub word_of : Word → Named
word_of w = a_name w.bytes.now w.place

abbrev pub names_of : Names → List Named
names_of ns = names_in (forest_ahead ns.list)

abbrev pub shown_function : code.Function → Defined
shown_function f = function (word_of f.name) (names_of f.formals) (names_of f.locals) (forest_ahead f.body)

abbrev pub shown_definition : Definition → Defined
shown_definition (Function f) = shown_function f
shown_definition (Global w) = global (word_of w)
shown_definition (Enumeration e) = enumeration e.first (names_of e.names)

abbrev pub shown : Result Definition FormFault → Result Defined FormFault
shown (Ok d) = Ok (shown_definition d)
shown (Err f) = Err f

-- the word with which the form of a definition begins
abbrev pub keyword_of : Definition → Keyword
keyword_of (Function f) = Def
keyword_of (Global w) = Let
keyword_of (Enumeration e) = Enum

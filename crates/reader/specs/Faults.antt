-- All faults of a text, and what it is read as.
use Rattle.std.specs.Prelude.{ℕ, List, [], ◌++◌, map, length, codes, Some, None, Ok, Err, Option, Result}
use Rattle.scanner.specs.Faults.{refusal, scan_refusal, scan_words, scan_faults, least}
use Rattle.scanner.specs.Scans.{lexemes_of}
use Rattle.scanner.specs.declared.fault.Refusal.{Refusal}
use Rattle.reader.specs.Definitions.{Defined, global, a_name, definition_faults, defined}
use Rattle.reader.specs.Forms.{Forest, none, named, numbered, form, grow}
use Rattle.reader.specs.Nests.{nest_faults}
use Rattle.reader.specs.declared.fault.FormFault.{FormFault}
use Rattle.reader.specs.declared.fault.FormFault.TheVariants.{Scan, NotOneForm, TooDeep, NoShape, LastOutOfRange}
use Rattle.reader.specs.declared.nesting.Nesting.TheVariants.{Before}

-- number, place and pass of each fault
abbrev pub form_refusal : FormFault → Refusal
form_refusal (Scan f) = scan_refusal f
form_refusal (NotOneForm p) = refusal 5 p 3
form_refusal (TooDeep p) = refusal 6 p 3
form_refusal (NoShape p) = refusal 7 p 4
form_refusal (LastOutOfRange p) = refusal 4 p 4

-- what is wrong, in words
abbrev pub form_words : FormFault → List ℕ
form_words (Scan f) = scan_words f
form_words (NotOneForm p) = codes "this belongs to no form"
form_words (TooDeep p) = codes "with this one over 32 parentheses are open"
form_words (NoShape p) = codes "this form or list fits no shape"
form_words (LastOutOfRange p) = codes "the last name of this enumeration would stand for more than 8,388,607"

-- the elements of a text, of which the first is its form
abbrev pub forms_of : List ℕ → Forest
forms_of text = (grow (lexemes_of text)).here

abbrev pub shape_faults : Forest → List FormFault
shape_faults none = []
shape_faults (named w p rest) = []
shape_faults (numbered w v p rest) = []
shape_faults (form p f rest) = definition_faults p f

abbrev pub first_defined : Forest → Defined
first_defined none = global (a_name [] 0)
first_defined (named w p rest) = global (a_name [] 0)
first_defined (numbered w v p rest) = global (a_name [] 0)
first_defined (form p f rest) = defined f

-- the scanner's, then those of the nesting, then those of the shapes
abbrev pub faults : List ℕ → List FormFault
faults text = map Scan (scan_faults text) ++ (nest_faults Before (length text) (lexemes_of text) ++ shape_faults (forms_of text))

abbrev pub chosen : Option FormFault → Defined → Result Defined FormFault
chosen None d = Ok d
chosen (Some f) d = Err f

-- the least fault, or the definition of a text that has none
abbrev pub reading : List ℕ → Result Defined FormFault
reading text = chosen (least form_refusal (faults text)) (first_defined (forms_of text))

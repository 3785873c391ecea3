-- What is taken from a form, part by part.
use Rattle.std.specs.Prelude.{◌≡◌, ℕ, false, ◌&&◌, List, Result, MatchResult, nat_le}
use Rattle.scanner.specs.declared.token.Word.{Word}
use Rattle.reader.specs.Definitions.{Defined, unless, is_named, is_form, shown}
use Rattle.reader.specs.Forms.{Forest, named, form, forest_ahead, survey}
use Rattle.reader.specs.Nests.{first_of}
use Rattle.reader.specs.declared.definition.Definition.{Definition}
use Rattle.reader.specs.declared.fault.FormFault.{FormFault}
use Rattle.reader.specs.declared.fault.FormFault.TheVariants.{NoShape}
use Rattle.reader.specs.declared.form.Form.{Form}
use Rattle.reader.specs.declared.list.List as code

-- the elements of a form that are still to come, and those of a list
abbrev pub elements_of : Form → Forest
elements_of f = forest_ahead f.rest

abbrev pub inside : code.List → Forest
inside l = forest_ahead l.names.list

-- a list of other things than names, or of more than so many, is at fault
abbrev pub list_faults : code.List → ℕ → List FormFault
list_faults l most = unless (l.found.only_names && nat_le l.found.count most) (NoShape l.place)

-- the first element, if it is a name, and then the others; else the form has no shape
abbrev pub TakesName : Form → Result Word FormFault → Form → Type 0
TakesName old r new =
    MatchResult r (λ w. (elements_of old ≡ named w.bytes.now w.place (elements_of new)) × (new.place ≡ old.place)) (λ e. (is_named (elements_of old) ≡ false) × (e ≡ NoShape old.place))

-- the same of a list
abbrev pub TakesList : Form → Result code.List FormFault → Form → Type 0
TakesList old r new =
    MatchResult r (λ l. (elements_of old ≡ form l.place (inside l) (elements_of new)) × (l.found ≡ survey (inside l)) × (new.place ≡ old.place)) (λ e. (is_form (elements_of old) ≡ false) × (e ≡ NoShape old.place))

-- the form is read as these definitions say: the first of its faults, or else what it defines
abbrev pub ReadsAs : (ℕ → Forest → List FormFault) → (Forest → Defined) → Form → Result Definition FormFault → Type 0
ReadsAs faults made f r = shown r ≡ first_of (faults f.place (elements_of f)) (made (elements_of f))

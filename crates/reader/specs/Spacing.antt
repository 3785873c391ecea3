-- Blanks, line feeds and comments between the tokens of a text do not change what is read, but for the places.
use Rattle.std.specs.Prelude.{◌≡◌, ℕ, ◌≤◌, List, ◌++◌, map, length, Ok, Err, Result}
use Rattle.scanner.specs.Gaps.{BetweenTokens, Gap, moved}
use Rattle.scanner.specs.declared.fault.ScanFault.{ScanFault}
use Rattle.scanner.specs.declared.fault.ScanFault.TheVariants.{TextTooLong, ForeignByte, WordTooLong, OutOfRange}
use Rattle.reader.specs.Definitions.{Named, a_name, Defined, function, global, enumeration}
use Rattle.reader.specs.Faults.{reading}
use Rattle.reader.specs.Forms.{Forest, none, named, numbered, form}
use Rattle.reader.specs.declared.fault.FormFault.{FormFault}
use Rattle.reader.specs.declared.fault.FormFault.TheVariants.{Scan, NotOneForm, TooDeep, NoShape, LastOutOfRange}

-- the same with each place p at f p
abbrev pub scan_fault_at : (ℕ → ℕ) → ScanFault → ScanFault
scan_fault_at f TextTooLong = TextTooLong
scan_fault_at f (ForeignByte p) = ForeignByte (f p)
scan_fault_at f (WordTooLong p) = WordTooLong (f p)
scan_fault_at f (OutOfRange p) = OutOfRange (f p)

abbrev pub fault_at : (ℕ → ℕ) → FormFault → FormFault
fault_at f (Scan s) = Scan (scan_fault_at f s)
fault_at f (NotOneForm p) = NotOneForm (f p)
fault_at f (TooDeep p) = TooDeep (f p)
fault_at f (NoShape p) = NoShape (f p)
fault_at f (LastOutOfRange p) = LastOutOfRange (f p)

abbrev pub forest_at : (ℕ → ℕ) → Forest → Forest
forest_at f none = none
forest_at f (named w p rest) = named w (f p) (forest_at f rest)
forest_at f (numbered w v p rest) = numbered w v (f p) (forest_at f rest)
forest_at f (form p inner rest) = form (f p) (forest_at f inner) (forest_at f rest)

abbrev pub name_at : (ℕ → ℕ) → Named → Named
name_at f n = a_name n.bytes (f n.place)

abbrev pub defined_at : (ℕ → ℕ) → Defined → Defined
defined_at f (function n formals locals body) = function (name_at f n) (map (name_at f) formals) (map (name_at f) locals) (forest_at f body)
defined_at f (global n) = global (name_at f n)
defined_at f (enumeration v names) = enumeration v (map (name_at f) names)

abbrev pub reading_at : (ℕ → ℕ) → Result Defined FormFault → Result Defined FormFault
reading_at f (Ok d) = Ok (defined_at f d)
reading_at f (Err e) = Err (fault_at f e)

-- a gap between the tokens of the text moves what stands behind it, and that is all
abbrev pub SpacingIsFree : List ℕ → Type 0
SpacingIsFree text = (a g b : List ℕ) → text ≡ a ++ b → BetweenTokens a b → Gap g → length (a ++ (g ++ b)) ≤ 8192 → reading (a ++ (g ++ b)) ≡ reading_at (moved (length a) (length g)) (reading text)

-- All faults of a text up to its words, and which of several faults is the refusal.
use Rattle.std.specs.Prelude.{ℕ, Bool, true, false, cond, ◌&&◌, ◌||◌, List, [], ◌∷◌, ◌++◌, length, ℤ, Some, None, Ok, Err, Option, Result, ◌==◌, nat_lt, codes}
use Rattle.scanner.specs.declared.fault.Refusal.{Refusal}
use Rattle.scanner.specs.declared.fault.ScanFault.{ScanFault}
use Rattle.scanner.specs.declared.fault.ScanFault.TheVariants.{TextTooLong, ForeignByte, WordTooLong, OutOfRange}
use Rattle.scanner.specs.Pieces.{Piece, opening, closing, spelled, foreign, pieces_of}
use Rattle.scanner.specs.Words.{value, in_range}

abbrev pub refusal : ℕ → ℕ → ℕ → Refusal
refusal number place pass = record { number = number; place = place; pass = pass }

-- number, place and pass of each fault
abbrev pub scan_refusal : ScanFault → Refusal
scan_refusal TextTooLong = refusal 1 0 1
scan_refusal (ForeignByte p) = refusal 2 p 2
scan_refusal (WordTooLong p) = refusal 3 p 2
scan_refusal (OutOfRange p) = refusal 4 p 2

-- what is wrong, in words
abbrev pub scan_words : ScanFault → List ℕ
scan_words TextTooLong = codes "the text of a definition has over 8,192 bytes"
scan_words (ForeignByte p) = codes "this byte may not stand in a text, not even in a comment"
scan_words (WordTooLong p) = codes "this word has over 16 bytes"
scan_words (OutOfRange p) = codes "this number is not from -8,388,608 to 8,388,607"

-- an earlier pass, then a smaller place, then a smaller number
abbrev pub before : Refusal → Refusal → Bool
before a b =
    nat_lt a.pass b.pass
    || (a.pass == b.pass && (nat_lt a.place b.place || (a.place == b.place && nat_lt a.number b.number)))

abbrev pub lesser : {F : Type 0} → (F → Refusal) → F → Option F → F
lesser told f None = f
lesser told f (Some g) = cond (before (told g) (told f)) g f

-- the fault that comes before all others
abbrev pub least : {F : Type 0} → (F → Refusal) → List F → Option F
least told [] = None
least told (f ∷ fs) = Some (lesser told f (least told fs))

abbrev pub refused : {F : Type 0} → Option F → Result (Unit {0}) F
refused None = Ok tt
refused (Some f) = Err f

abbrev pub refused_by : {F : Type 0} → (F → Refusal) → List F → Result (Unit {0}) F
refused_by told fs = refused (least told fs)

abbrev pub when : {F : Type 0} → Bool → F → List F
when true f = f ∷ []
when false f = []

abbrev pub out_of_range : Option ℤ → Bool
out_of_range None = false
out_of_range (Some v) = cond (in_range v) false true

abbrev pub piece_faults : Piece → List ScanFault
piece_faults (opening p) = []
piece_faults (closing p) = []
piece_faults (spelled w p) = when (nat_lt 16 (length w)) (WordTooLong p) ++ when (out_of_range (value w)) (OutOfRange p)
piece_faults (foreign b p) = ForeignByte p ∷ []

abbrev pub pieces_faults : List Piece → List ScanFault
pieces_faults [] = []
pieces_faults (x ∷ xs) = piece_faults x ++ pieces_faults xs

abbrev pub scan_faults : List ℕ → List ScanFault
scan_faults text = when (nat_lt 8192 (length text)) TextTooLong ++ pieces_faults (pieces_of text)

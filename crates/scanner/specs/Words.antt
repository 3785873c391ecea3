-- Which words are numbers, and what a piece is as a token.
use Rattle.std.specs.Prelude.{ℕ, ◌+◌, ◌-◌, ◌*◌, Bool, true, cond, ◌&&◌, List, [], ◌∷◌, length, drop, ℤ, pos, negsuc, neg_ℤ, Some, None, Ok, Err, Option, Result, ◌==◌, int_le, nat_le, nat_lt, slice_index}
use Rattle.scanner.specs.declared.fault.ScanFault.{ScanFault}
use Rattle.scanner.specs.declared.fault.ScanFault.TheVariants.{ForeignByte, WordTooLong, OutOfRange}
use Rattle.scanner.specs.Pieces.{Piece, opening, closing, spelled, foreign}

-- the value of decimal digits, behind those with the value n
abbrev pub worth : ℕ → List ℕ → ℕ
worth n [] = n
worth n (b ∷ bs) = worth (n * 10 + (b - 48)) bs

abbrev pub digit : ℕ → Bool
digit b = nat_le 48 b && nat_le b 57

abbrev pub digits : List ℕ → Bool
digits [] = true
digits (b ∷ bs) = digit b && digits bs

-- what a word of digits, at least one, says
abbrev pub magnitude : List ℕ → Option ℕ
magnitude w = cond (nat_lt 0 (length w) && digits w) (Some (worth 0 w)) None

abbrev pub plus : Option ℕ → Option ℤ
plus None = None
plus (Some n) = Some (pos n)

abbrev pub minus : Option ℕ → Option ℤ
minus None = None
minus (Some n) = Some (neg_ℤ (pos n))

-- the value of a word that is a number: digits, or a minus sign and digits
abbrev pub value : List ℕ → Option ℤ
value w = cond (slice_index w 0 == 45) (minus (magnitude (drop 1 w))) (plus (magnitude w))

abbrev pub in_range : ℤ → Bool
in_range v = int_le (negsuc 8388607) v && int_le v (pos 8388607)

-- a token as the definitions see it, with its bytes and its place
pub data Lexeme : Type 0 where
  opens : ℕ → Lexeme
  closes : ℕ → Lexeme
  name : List ℕ → ℕ → Lexeme
  number : List ℕ → ℤ → ℕ → Lexeme

-- what the scanner gives for a piece
abbrev pub Item : Type 0
Item = Result Lexeme ScanFault

abbrev pub judged : Option ℤ → List ℕ → ℕ → Item
judged None w p = Ok (name w p)
judged (Some v) w p = cond (in_range v) (Ok (number w v p)) (Err (OutOfRange p))

unfoldable pub word_item : List ℕ → ℕ → Item
word_item w p = cond (nat_lt 16 (length w)) (Err (WordTooLong p)) (judged (value w) w p)

abbrev pub item : Piece → Item
item (opening p) = Ok (opens p)
item (closing p) = Ok (closes p)
item (spelled w p) = word_item w p
item (foreign b p) = Err (ForeignByte p)

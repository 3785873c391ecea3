-- What a scanner has still to give.
use Rattle.std.specs.Prelude.{◌≡◌, ℕ, Bool, true, false, List, [], ◌∷◌, map, drop, Some, None, Ok, Err, Option, Result}
use Rattle.scanner.specs.declared.fault.ScanFault.{ScanFault}
use Rattle.scanner.specs.declared.scanner.Scanner.{Scanner}
use Rattle.scanner.specs.declared.scanner.Tokens.{Tokens}
use Rattle.scanner.specs.declared.token.Token.{Token}
use Rattle.scanner.specs.declared.token.Token.TheVariants as token
use Rattle.scanner.specs.Pieces.{Mode, between, in_comment, pieces, pieces_of}
use Rattle.scanner.specs.Words.{Lexeme, opens, closes, name, number, Item, item}

abbrev pub items_of : List ℕ → List Item
items_of text = map item (pieces_of text)

abbrev pub mode : Bool → Mode
mode true = in_comment
mode false = between

abbrev pub left : Scanner → List Item
left s = map item (pieces (mode s.in_comment) s.at (drop s.at s.text.now))

-- the tokens among what the scanner gives
abbrev pub lexemes : List Item → List Lexeme
lexemes [] = []
lexemes (Ok l ∷ is) = l ∷ lexemes is
lexemes (Err f ∷ is) = lexemes is

abbrev pub lexemes_of : List ℕ → List Lexeme
lexemes_of text = lexemes (items_of text)

abbrev pub ahead : Scanner → List Lexeme
ahead s = lexemes (left s)

-- the tokens that an iterator over them has yet to give
abbrev pub coming : Tokens → List Lexeme
coming ts = ahead ts.0

abbrev pub lexeme : Token → Lexeme
lexeme (token.Open p) = opens p
lexeme (token.Close p) = closes p
lexeme (token.Name w) = name w.bytes.now w.place
lexeme (token.Number w v) = number w.bytes.now v w.place

abbrev pub seen : Result Token ScanFault → Item
seen (Ok t) = Ok (lexeme t)
seen (Err f) = Err f

-- the first fault among what the scanner gives
abbrev pub sound : List Item → Result (Unit {0}) ScanFault
sound [] = Ok tt
sound (Ok l ∷ is) = sound is
sound (Err f ∷ is) = Err f

-- r is the first of the tokens, and `rest` are the others
abbrev pub Next : List Lexeme → Option Token → List Lexeme → Type 0
Next ls None rest = (ls ≡ []) × (rest ≡ [])
Next ls (Some t) rest = ls ≡ lexeme t ∷ rest

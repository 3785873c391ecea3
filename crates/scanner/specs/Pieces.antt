-- The pieces of a text: its parentheses and words, and the bytes that stand in no text. In a text without faults
-- they are its tokens.
use Rattle.std.specs.Prelude.{ℕ, ◌+◌, List, [], ◌∷◌}
use Rattle.scanner.specs.Bytes.{class}
use Rattle.scanner.specs.declared.class.Class.{Class}
use Rattle.scanner.specs.declared.class.Class.TheVariants.{Blank, LineFeed, Open, Close, Semicolon, Letter, Foreign}

-- each with its place, the offset of its first byte
pub data Piece : Type 0 where
  opening : ℕ → Piece
  closing : ℕ → Piece
  spelled : List ℕ → ℕ → Piece
  foreign : ℕ → ℕ → Piece

abbrev pub piece_place : Piece → ℕ
piece_place (opening p) = p
piece_place (closing p) = p
piece_place (spelled w p) = p
piece_place (foreign b p) = p

abbrev pub piece_bytes : Piece → List ℕ
piece_bytes (opening p) = 40 ∷ []
piece_bytes (closing p) = 41 ∷ []
piece_bytes (spelled w p) = w
piece_bytes (foreign b p) = b ∷ []

-- where the scanner stands
pub data Mode : Type 0 where
  between in_word in_comment : Mode

-- the letters at the front: the word that begins there
abbrev pub if_letter : Class → List ℕ → List ℕ
if_letter Letter bs = bs
if_letter Blank bs = []
if_letter LineFeed bs = []
if_letter Open bs = []
if_letter Close bs = []
if_letter Semicolon bs = []
if_letter Foreign bs = []

abbrev pub letters : List ℕ → List ℕ
letters [] = []
letters (b ∷ bs) = if_letter (class b) (b ∷ letters bs)

-- What a byte b of this class is at the place p, and where the scanner stands behind it; w is the word that
-- begins there if one does.
abbrev pub outside : Class → ℕ → ℕ → List ℕ → (Mode → List Piece) → List Piece
outside Blank b p w go = go between
outside LineFeed b p w go = go between
outside Open b p w go = opening p ∷ go between
outside Close b p w go = closing p ∷ go between
outside Semicolon b p w go = go in_comment
outside Letter b p w go = spelled w p ∷ go in_word
outside Foreign b p w go = foreign b p ∷ go between

abbrev pub inside : Class → ℕ → ℕ → List ℕ → (Mode → List Piece) → List Piece
inside Letter b p w go = go in_word
inside Blank b p w go = outside Blank b p w go
inside LineFeed b p w go = outside LineFeed b p w go
inside Open b p w go = outside Open b p w go
inside Close b p w go = outside Close b p w go
inside Semicolon b p w go = outside Semicolon b p w go
inside Foreign b p w go = outside Foreign b p w go

abbrev pub hushed : Class → ℕ → ℕ → (Mode → List Piece) → List Piece
hushed LineFeed b p go = go between
hushed Foreign b p go = foreign b p ∷ go in_comment
hushed Blank b p go = go in_comment
hushed Open b p go = go in_comment
hushed Close b p go = go in_comment
hushed Semicolon b p go = go in_comment
hushed Letter b p go = go in_comment

abbrev pub step : Mode → Class → ℕ → ℕ → List ℕ → (Mode → List Piece) → List Piece
step between k b p w go = outside k b p w go
step in_word k b p w go = inside k b p w go
step in_comment k b p w go = hushed k b p go

-- the pieces of bytes of which the first stands at p
abbrev pub pieces : Mode → ℕ → List ℕ → List Piece
pieces m p [] = []
pieces m p (b ∷ bs) = step m (class b) b p (letters (b ∷ bs)) (λ n. pieces n (p + 1) bs)

abbrev pub pieces_of : List ℕ → List Piece
pieces_of text = pieces between 0 text

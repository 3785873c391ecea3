-- What the pieces of every text are, said without the scanner.
use Rattle.std.specs.Prelude.{◌≡◌, ℕ, ◌+◌, ◌<◌, ◌≤◌, Bool, true, false, cond, ◌&&◌, ◌⊎◌, List, [], ◌∷◌, length, take, drop, ◌≢◌, nat_le, nat_lt, slice_index}
use Rattle.std.specs.List.{AllByRecursion}
use Rattle.scanner.specs.Bytes.{class}
use Rattle.scanner.specs.Pieces.{Piece, opening, closing, spelled, foreign, piece_place, piece_bytes, pieces_of}
use Rattle.scanner.specs.declared.class.Class.TheVariants.{Blank, LineFeed, Letter, Foreign}

-- a piece is the part of the text at its place
abbrev pub Part : List ℕ → Piece → Type 0
Part text x = take (length (piece_bytes x)) (drop (piece_place x) text) ≡ piece_bytes x

-- a word is letters, at least one
abbrev pub Lettered : Piece → Type 0
Lettered (opening p) = Unit {0}
Lettered (closing p) = Unit {0}
Lettered (spelled w p) = (0 < length w) × AllByRecursion (λ b. class b ≡ Letter) w
Lettered (foreign b p) = class b ≡ Foreign

abbrev pub PartsOfTheText : List ℕ → Type 0
PartsOfTheText text = AllByRecursion (λ x. Part text x × Lettered x) (pieces_of text)

abbrev pub is_word : Piece → Bool
is_word (opening p) = false
is_word (closing p) = false
is_word (spelled w p) = true
is_word (foreign b p) = false

abbrev pub piece_end : Piece → ℕ
piece_end x = piece_place x + length (piece_bytes x)

-- the next piece begins where this one ends or later; between two words something stands
abbrev pub Clear : Piece → List Piece → Type 0
Clear x [] = Unit {0}
Clear x (y ∷ ys) = (piece_end x ≤ piece_place y) × (is_word x ≡ true → is_word y ≡ true → piece_end x < piece_place y)

abbrev pub InOrder : List Piece → Type 0
InOrder [] = Unit {0}
InOrder (x ∷ xs) = Clear x xs × InOrder xs

abbrev pub InOrderAndApart : List ℕ → Type 0
InOrderAndApart text = InOrder (pieces_of text)

abbrev pub covers : Piece → ℕ → Bool
covers x i = nat_le (piece_place x) i && nat_lt i (piece_end x)

-- how many pieces the byte at i belongs to
abbrev pub owners : ℕ → List Piece → ℕ
owners i [] = 0
owners i (x ∷ xs) = cond (covers x i) 1 0 + owners i xs

-- the byte at i is a semicolon or stands behind one with no line feed between them
abbrev pub Commented : List ℕ → ℕ → Type 0
Commented text i = (j : ℕ) × (j ≤ i) × (slice_index text j ≡ 59) × ((k : ℕ) → j ≤ k → k < i → slice_index text k ≢ 10)

-- it parts words
abbrev pub Parting : List ℕ → ℕ → Type 0
Parting text i = (class (slice_index text i) ≡ Blank) ⊎ (class (slice_index text i) ≡ LineFeed)

-- a byte that parts no words and is in no comment belongs to exactly one piece, and so does every byte that
-- stands in no text; any other belongs to none
pub record Owned (text : List ℕ) (i : ℕ) : Type 0 where
  pub one : (Parting text i → ⊥) → (Commented text i → ⊥) → owners i (pieces_of text) ≡ 1
  pub odd : class (slice_index text i) ≡ Foreign → owners i (pieces_of text) ≡ 1
  pub parts : Parting text i → owners i (pieces_of text) ≡ 0
  pub comments : Commented text i → (class (slice_index text i) ≢ Foreign) → owners i (pieces_of text) ≡ 0

abbrev pub EachByteOwned : List ℕ → Type 0
EachByteOwned text = (i : ℕ) → i < length text → Owned text i

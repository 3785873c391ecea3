-- Blanks, line feeds and comments between the tokens of a text.
use Rattle.std.specs.Prelude.{◌≡◌, ℕ, ◌+◌, ◌-◌, cond, List, [], ◌∷◌, ◌++◌, map, length, ◌≢◌, nat_lt, slice_index}
use Rattle.std.specs.List.{AllByRecursion}
use Rattle.scanner.specs.Bytes.{class}
use Rattle.scanner.specs.Laws.{Commented}
use Rattle.scanner.specs.Pieces.{Piece, opening, closing, spelled, foreign, pieces_of}
use Rattle.scanner.specs.declared.class.Class.TheVariants.{Blank, LineFeed, Letter, Foreign}

-- a byte of a comment
abbrev pub Hushed : ℕ → Type 0
Hushed b = (class b ≢ LineFeed) × (class b ≢ Foreign)

-- blanks, line feeds, and comments with the line feed that ends them
pub data Gap : List ℕ → Type 0 where
  nothing : Gap []
  blank : {g : List ℕ} (b : ℕ) → class b ≡ Blank → Gap g → Gap (b ∷ g)
  line_feed : {g : List ℕ} → Gap g → Gap (10 ∷ g)
  comment : {g : List ℕ} (c : List ℕ) → AllByRecursion Hushed c → Gap g → Gap (59 ∷ (c ++ (10 ∷ g)))

-- between a and b no comment is open, and no word goes on
pub record BetweenTokens (a b : List ℕ) : Type 0 where
  pub quiet : Commented a (length a) → ⊥
  pub apart : class (slice_index a (length a - 1)) ≡ Letter → class (slice_index b 0) ≢ Letter

-- a place from n on moves by k
abbrev pub moved : ℕ → ℕ → ℕ → ℕ
moved n k p = cond (nat_lt p n) p (p + k)

abbrev pub at_place : (ℕ → ℕ) → Piece → Piece
at_place f (opening p) = opening (f p)
at_place f (closing p) = closing (f p)
at_place f (spelled w p) = spelled w (f p)
at_place f (foreign b p) = foreign b (f p)

-- a gap between tokens only moves what stands behind it
abbrev pub GapMovesPieces : Type 0
GapMovesPieces = (a g b : List ℕ) → BetweenTokens a b → Gap g → pieces_of (a ++ (g ++ b)) ≡ map (at_place (moved (length a) (length g))) (pieces_of (a ++ b))

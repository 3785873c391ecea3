-- The places of the pieces of a text rise, and so do those of its tokens.
use Rattle.std.proofs.Common.{◌≡◌, ℕ, ◌+◌, ◌<◌, ◌≤◌, Bool, true, false, cond, ltb, List, [], ◌∷◌, map, length, take, drop, ℤ, Some, None, Ok, Err, Option, ap, arith, length-drop, length-take}
use Rattle.std.specs.List.{AllByRecursion}
use Rattle.scanner.specs.Laws.{InOrder, Lettered, Part}
use Rattle.scanner.specs.Pieces.{Piece, opening, closing, spelled, foreign, piece_place, piece_bytes, pieces_of}
use Rattle.scanner.specs.Scans.{lexemes, lexemes_of}
use Rattle.scanner.specs.Words.{Item, item, in_range, judged, Lexeme, opens, closes, name, number, value, word_item}
use Rattle.scanner.specs.declared.fault.ScanFault.TheVariants.{WordTooLong, OutOfRange}
use Rattle.scanner.proofs.Apart.{in_order_and_apart}
use Rattle.scanner.proofs.Parts.{parts_of_the_text}

-- from p on, and below q
abbrev pub Rises : ℕ → ℕ → List Piece → Type 0
Rises p q [] = p ≤ q
Rises p q (x ∷ xs) = (p ≤ piece_place x) × Rises (piece_place x + 1) q xs

some_bytes : (x : Piece) → Lettered x → 0 < length (piece_bytes x)
some_bytes (opening p) l = omega arith
some_bytes (closing p) l = omega arith
some_bytes (spelled w p) l = l.0
some_bytes (foreign b p) l = omega arith

module _ (text : List ℕ) where
  place_below : (x : Piece) → Part text x → Lettered x → piece_place x + 1 ≤ length text
  place_below x part l =
      let n = length (piece_bytes x) in
      let long : length (take n (drop (piece_place x) text)) ≡ n = ap length part in
      omega (arith, some_bytes x l, long, length-take n (drop (piece_place x) text), length-drop (piece_place x) text)

  rises_behind : (x : Piece) (xs : List Piece) → Part text x × Lettered x → AllByRecursion (λ y. Part text y × Lettered y) xs → InOrder (x ∷ xs) → Rises (piece_place x + 1) (length text) xs
  rises_behind x [] l ls o = place_below x l.0 l.1
  rises_behind x (y ∷ ys) l ls o = (omega (arith, o.0.0, some_bytes x l.1), rises_behind y ys ls.0 ls.1 o.1)

  rises_from_0 : (xs : List Piece) → AllByRecursion (λ y. Part text y × Lettered y) xs → InOrder xs → Rises 0 (length text) xs
  rises_from_0 [] ls o = omega arith
  rises_from_0 (x ∷ xs) ls o = (omega arith, rises_behind x xs ls.0 ls.1 o)

  pub rises : Rises 0 (length text) (pieces_of text)
  rises = rises_from_0 (pieces_of text) (parts_of_the_text text) (in_order_and_apart text)

abbrev pub lexeme_place : Lexeme → ℕ
lexeme_place (opens p) = p
lexeme_place (closes p) = p
lexeme_place (name w p) = p
lexeme_place (number w v p) = p

abbrev pub Rising : ℕ → ℕ → List Lexeme → Type 0
Rising p q [] = p ≤ q
Rising p q (l ∷ ls) = (p ≤ lexeme_place l) × Rising (lexeme_place l + 1) q ls

pub rising_lower : (p p' q : ℕ) (ls : List Lexeme) → p ≤ p' → Rising p' q ls → Rising p q ls
rising_lower p p' q [] le r = omega arith
rising_lower p p' q (l ∷ ls) le r = (omega (arith, r.0), r.1)

-- what the scanner gives for a word stands where the word does
module _ (p a q : ℕ) (le : p ≤ a) (w : List ℕ) (is : List Item) (r : Rising (a + 1) q (lexemes is)) where
  ranged : (v : ℤ) (b : Bool) → Rising p q (lexemes (cond b (Ok (number w v a)) (Err (OutOfRange a)) ∷ is))
  ranged v true = (le, r)
  ranged v false = rising_lower p (a + 1) q (lexemes is) (omega arith) r

  spelled_rises : (b : Bool) (v : Option ℤ) → Rising p q (lexemes (cond b (Err (WordTooLong a)) (judged v w a) ∷ is))
  spelled_rises true v = rising_lower p (a + 1) q (lexemes is) (omega arith) r
  spelled_rises false None = (le, r)
  spelled_rises false (Some v) = ranged v (in_range v)

items_rise : (p q : ℕ) (xs : List Piece) → Rises p q xs → Rising p q (lexemes (map item xs))
unfolding word_item
items_rise p q [] r = r
items_rise p q (opening a ∷ xs) r = (r.0, items_rise (a + 1) q xs r.1)
items_rise p q (closing a ∷ xs) r = (r.0, items_rise (a + 1) q xs r.1)
items_rise p q (spelled w a ∷ xs) r = spelled_rises p a q r.0 w (map item xs) (items_rise (a + 1) q xs r.1) (ltb 16 (length w)) (value w)
items_rise p q (foreign b a ∷ xs) r = rising_lower p (a + 1) q (lexemes (map item xs)) (omega (arith, r.0)) (items_rise (a + 1) q xs r.1)

pub lexemes_rise : (text : List ℕ) → Rising 0 (length text) (lexemes_of text)
lexemes_rise text = items_rise 0 (length text) (pieces_of text) (rises text)

-- a text has at most as many tokens as bytes
pub lexemes_few : (p q : ℕ) (ls : List Lexeme) → Rising p q ls → p + length ls ≤ q
lexemes_few p q [] r = omega arith
lexemes_few p q (l ∷ ls) r = omega (arith, r.0, lexemes_few (lexeme_place l + 1) q ls r.1)

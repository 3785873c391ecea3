-- The pieces follow each other, and between two words something stands.
use Rattle.std.proofs.Common.{◌≡◌, ℕ, ◌+◌, ◌<◌, ◌≤◌, true, false, List, [], ◌∷◌, length, refl, ap, subst, arith}
use Rattle.std.specs.List.{AllByRecursion}
use Rattle.std.proofs.ByRecursion.{All-weaker}
use Rattle.std.proofs.lemmas.Bool.{both_ways}
use Rattle.scanner.specs.Bytes.{class}
use Rattle.scanner.specs.Pieces.{Piece, opening, closing, spelled, foreign, piece_place, Mode, between, in_word, in_comment, letters, if_letter, step, inside, pieces}
use Rattle.scanner.specs.Laws.{is_word, piece_end, Clear, InOrder, InOrderAndApart}
use Rattle.scanner.specs.declared.class.Class.{Class}
use Rattle.scanner.specs.declared.class.Class.TheVariants.{LineFeed, Open, Close, Semicolon, Letter, Foreign}
use Rattle.scanner.proofs.Places.{places_from}

-- at n or later, and a word later
abbrev Behind : ℕ → Piece → Type 0
Behind n x = (n ≤ piece_place x) × (is_word x ≡ true → n < piece_place x)

later_behind : (p : ℕ) (xs : List Piece) → AllByRecursion (λ x. p + 1 ≤ piece_place x) xs → AllByRecursion (Behind p) xs
later_behind p = All-weaker (λ x. p + 1 ≤ piece_place x) (Behind p) (λ x h. (omega arith, λ _. omega arith))

here_behind : (p : ℕ) (x : Piece) → piece_place x ≡ p → is_word x ≡ false → Behind p x
here_behind p x e lone = (omega arith, λ word. absurd (both_ways (is_word x) lone word))

-- the pieces behind a word of which the letters w are left behind the byte b
module _ (b p : ℕ) (w v : List ℕ) (go : Mode → List Piece) (later : (n : Mode) → AllByRecursion (λ x. p + 1 ≤ piece_place x) (go n)) where
  past : (n : Mode) → AllByRecursion (Behind p) (go n)
  past n = later_behind p (go n) (later n)

  ended : (xs : List Piece) → AllByRecursion (Behind p) xs → AllByRecursion (Behind (p + 0)) xs
  ended xs h = let e : p ≡ p + 0 = omega arith in subst (λ n. AllByRecursion (Behind n) xs) e h

  word_step : (k : Class) → AllByRecursion (Behind (p + 1 + length w)) (go in_word) → AllByRecursion (Behind (p + length (if_letter k (b ∷ w)))) (inside k b p v go)
  word_step Letter h = let e : p + 1 + length w ≡ p + length (b ∷ w) = omega arith in subst (λ n. AllByRecursion (Behind n) (go in_word)) e h
  word_step Open h = ended (opening p ∷ go between) (here_behind p (opening p) refl refl, past between)
  word_step Close h = ended (closing p ∷ go between) (here_behind p (closing p) refl refl, past between)
  word_step Semicolon h = ended (go in_comment) (past in_comment)
  word_step Foreign h = ended (foreign b p ∷ go between) (here_behind p (foreign b p) refl refl, past between)
  word_step _ h = ended (go between) (past between)

behind_word : (p : ℕ) (bs : List ℕ) → AllByRecursion (Behind (p + length (letters bs))) (pieces in_word p bs)
behind_word p [] = tt
behind_word p (b ∷ bs) = word_step b p (letters bs) (letters (b ∷ bs)) (λ n. pieces n (p + 1) bs) (λ n. places_from n (p + 1) bs) (class b) (behind_word (p + 1) bs)

clear : (x : Piece) (xs : List Piece) → AllByRecursion (Behind (piece_end x)) xs → Clear x xs
clear x [] h = tt
clear x (y ∷ ys) h = (h.0.0, λ _. h.0.1)

lone_clear : (x : Piece) (p : ℕ) (xs : List Piece) → piece_end x ≡ p + 1 → is_word x ≡ false → AllByRecursion (λ y. p + 1 ≤ piece_place y) xs → Clear x xs
lone_clear x p [] e lone h = tt
lone_clear x p (y ∷ ys) e lone h = (omega (arith, h.0), λ word. absurd (both_ways (is_word x) lone word))

module _ (b p : ℕ) (w : List ℕ) (go : Mode → List Piece) (later : (n : Mode) → AllByRecursion (λ x. p + 1 ≤ piece_place x) (go n)) (order : (n : Mode) → InOrder (go n)) where
  lone : (x : Piece) → piece_end x ≡ p + 1 → is_word x ≡ false → (n : Mode) → InOrder (x ∷ go n)
  lone x e no_word n = (lone_clear x p (go n) e no_word (later n), order n)

  order_step : (m : Mode) (k : Class) → (k ≡ Letter → Clear (spelled w p) (go in_word)) → InOrder (step m k b p w go)
  order_step in_comment LineFeed word = order between
  order_step in_comment Foreign word = lone (foreign b p) refl refl in_comment
  order_step in_comment _ word = order in_comment
  order_step between Letter word = (word refl, order in_word)
  order_step in_word Letter word = order in_word
  order_step _ Open word = lone (opening p) refl refl between
  order_step _ Close word = lone (closing p) refl refl between
  order_step _ Semicolon word = order in_comment
  order_step _ Foreign word = lone (foreign b p) refl refl between
  order_step _ _ word = order between

-- a word ends where its letters end
word_clear : (p b : ℕ) (bs : List ℕ) → class b ≡ Letter → Clear (spelled (letters (b ∷ bs)) p) (pieces in_word (p + 1) bs)
word_clear p b bs e =
    let some : length (letters (b ∷ bs)) ≡ length (b ∷ letters bs) = ap (λ k. length (if_letter k (b ∷ letters bs))) e in
    let end : p + 1 + length (letters bs) ≡ p + length (letters (b ∷ bs)) = omega arith in
    clear (spelled (letters (b ∷ bs)) p) (pieces in_word (p + 1) bs) (subst (λ n. AllByRecursion (Behind n) (pieces in_word (p + 1) bs)) end (behind_word (p + 1) bs))

in_order : (m : Mode) (p : ℕ) (bs : List ℕ) → InOrder (pieces m p bs)
in_order m p [] = tt
in_order m p (b ∷ bs) = order_step b p (letters (b ∷ bs)) (λ n. pieces n (p + 1) bs) (λ n. places_from n (p + 1) bs) (λ n. in_order n (p + 1) bs) m (class b) (word_clear p b bs)

pub in_order_and_apart : (text : List ℕ) → InOrderAndApart text
in_order_and_apart text = in_order between 0 text

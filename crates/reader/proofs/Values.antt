-- Every number in a text has the value of its word.
use Rattle.std.proofs.Common.{◌≡◌, ℕ, Bool, true, false, cond, ltb, List, [], ◌∷◌, map, length, ℤ, Some, None, Ok, Err, Option, refl}
use Rattle.std.specs.List.{AllByRecursion}
use Rattle.scanner.specs.Pieces.{Piece, opening, closing, spelled, foreign, pieces_of}
use Rattle.scanner.specs.Scans.{lexemes, lexemes_of}
use Rattle.scanner.specs.Words.{Lexeme, opens, closes, name, number, Item, item, in_range, judged, value, word_item}
use Rattle.scanner.specs.declared.fault.ScanFault.TheVariants.{WordTooLong, OutOfRange}
use Rattle.reader.specs.Faults.{forms_of}
use Rattle.reader.specs.Forms.{Forest, none, named, numbered, form, Pile, grow, first_list, other_lists}

abbrev Valued : Lexeme → Type 0
Valued (opens p) = Unit {0}
Valued (closes p) = Unit {0}
Valued (name w p) = Unit {0}
Valued (number w v p) = value w ≡ Some v

judged_valued : (b : Bool) (v : ℤ) (w : List ℕ) (p : ℕ) (is : List Item) → value w ≡ Some v → AllByRecursion Valued (lexemes is) → AllByRecursion Valued (lexemes (cond b (Ok (number w v p)) (Err (OutOfRange p)) ∷ is))
judged_valued true v w p is e h = (e, h)
judged_valued false v w p is e h = h

word_valued : (b : Bool) (o : Option ℤ) (w : List ℕ) (p : ℕ) (is : List Item) → value w ≡ o → AllByRecursion Valued (lexemes is) → AllByRecursion Valued (lexemes (cond b (Err (WordTooLong p)) (judged o w p) ∷ is))
word_valued true o w p is e h = h
word_valued false None w p is e h = (tt, h)
word_valued false (Some v) w p is e h = judged_valued (in_range v) v w p is e h

lexemes_valued : (xs : List Piece) → AllByRecursion Valued (lexemes (map item xs))
unfolding word_item
lexemes_valued [] = tt
lexemes_valued (opening p ∷ xs) = (tt, lexemes_valued xs)
lexemes_valued (closing p ∷ xs) = (tt, lexemes_valued xs)
lexemes_valued (spelled w p ∷ xs) = word_valued (ltb 16 (length w)) (value w) w p (map item xs) refl (lexemes_valued xs)
lexemes_valued (foreign b p ∷ xs) = lexemes_valued xs

abbrev pub ValuedForest : Forest → Type 0
ValuedForest none = Unit {0}
ValuedForest (named w p rest) = ValuedForest rest
ValuedForest (numbered w v p rest) = (value w ≡ Some v) × ValuedForest rest
ValuedForest (form p f rest) = ValuedForest f × ValuedForest rest

abbrev ValuedPile : Pile → Type 0
ValuedPile s = ValuedForest s.here × AllByRecursion ValuedForest s.around

form_valued : (p : ℕ) (f : Forest) (fs : List Forest) → ValuedForest f → AllByRecursion ValuedForest fs → ValuedPile (record { here = form p f (first_list fs); around = other_lists fs })
form_valued p f [] h hs = ((h, tt), tt)
form_valued p f (g ∷ fs) h hs = ((h, hs.0), hs.1)

pile_valued : (ls : List Lexeme) → AllByRecursion Valued ls → ValuedPile (grow ls)
pile_valued [] h = (tt, tt)
pile_valued (opens p ∷ ls) h = let s = pile_valued ls h.1 in form_valued p (grow ls).here (grow ls).around s.0 s.1
pile_valued (closes p ∷ ls) h = (tt, pile_valued ls h.1)
pile_valued (name w p ∷ ls) h = pile_valued ls h.1
pile_valued (number w v p ∷ ls) h = let s = pile_valued ls h.1 in ((h.0, s.0), s.1)

pub forms_valued : (text : List ℕ) → ValuedForest (forms_of text)
forms_valued text = (pile_valued (lexemes_of text) (lexemes_valued (pieces_of text))).0

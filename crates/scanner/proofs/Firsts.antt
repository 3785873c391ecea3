-- The first fault that the scanner meets is the least.
use Rattle.std.proofs.Common.{◌≡◌, ℕ, ◌+◌, ◌*◌, ◌<◌, ◌≤◌, Bool, true, false, cond, ltb, List, [], ◌∷◌, ◌++◌, map, length, ℤ, Some, None, Ok, Err, Option, sym, refl, ap, ◌∙◌, arith}
use Rattle.std.proofs.lemmas.Bool.{le-ltb, lt-ltb}
use Rattle.scanner.specs.declared.fault.ScanFault.{ScanFault}
use Rattle.scanner.specs.declared.fault.ScanFault.TheVariants.{TextTooLong, WordTooLong, OutOfRange}
use Rattle.scanner.specs.Pieces.{Piece, opening, closing, spelled, foreign, pieces_of}
use Rattle.scanner.specs.Words.{Item, item, in_range, judged, number, value, word_item}
use Rattle.scanner.specs.Scans.{items_of, sound}
use Rattle.scanner.specs.Faults.{scan_refusal, refused, refused_by, when, out_of_range, pieces_faults, scan_faults}
use Rattle.scanner.proofs.Ascents.{first, least_first, Ascending, ascending_append, Climbing, climbing_lower, climbing_ascends, passes}
use Rattle.scanner.proofs.Rises.{Rises, rises}

judged_first : (v : ℤ) (b : Bool) (w : List ℕ) (p : ℕ) (is : List Item) (fs : List ScanFault) → sound is ≡ refused (first fs) → sound (cond b (Ok (number w v p)) (Err (OutOfRange p)) ∷ is) ≡ refused (first (when (cond b false true) (OutOfRange p) ++ fs))
judged_first v true w p is fs e = e
judged_first v false w p is fs e = refl

word_first : (b : Bool) (v : Option ℤ) (w : List ℕ) (p : ℕ) (is : List Item) (fs : List ScanFault) → sound is ≡ refused (first fs) → sound (cond b (Err (WordTooLong p)) (judged v w p) ∷ is) ≡ refused (first ((when b (WordTooLong p) ++ when (out_of_range v) (OutOfRange p)) ++ fs))
word_first true v w p is fs e = refl
word_first false None w p is fs e = e
word_first false (Some v) w p is fs e = judged_first v (in_range v) w p is fs e

sound_first : (xs : List Piece) → sound (map item xs) ≡ refused (first (pieces_faults xs))
unfolding word_item
sound_first [] = refl
sound_first (opening p ∷ xs) = sound_first xs
sound_first (closing p ∷ xs) = sound_first xs
sound_first (spelled w p ∷ xs) = word_first (ltb 16 (length w)) (value w) w p (map item xs) (pieces_faults xs) (sound_first xs)
sound_first (foreign b p ∷ xs) = refl

word_climbs : (b c : Bool) (p x : ℕ) (fs : List ScanFault) → x ≤ 32 * p → Climbing scan_refusal 2 (32 * (p + 1)) fs → Climbing scan_refusal 2 x ((when b (WordTooLong p) ++ when c (OutOfRange p)) ++ fs)
word_climbs true true p x fs le h = (refl, omega arith, omega arith, (refl, omega arith, omega arith, climbing_lower scan_refusal 2 _ _ fs (omega arith) h))
word_climbs true false p x fs le h = (refl, omega arith, omega arith, climbing_lower scan_refusal 2 _ _ fs (omega arith) h)
word_climbs false true p x fs le h = (refl, omega arith, omega arith, climbing_lower scan_refusal 2 _ _ fs (omega arith) h)
word_climbs false false p x fs le h = climbing_lower scan_refusal 2 _ _ fs (omega arith) h

pieces_climb : (p e : ℕ) (xs : List Piece) → Rises p e xs → Climbing scan_refusal 2 (32 * p) (pieces_faults xs)
pieces_climb p e [] r = tt
pieces_climb p e (opening q ∷ xs) r = climbing_lower scan_refusal 2 _ _ (pieces_faults xs) (omega (arith, r.0)) (pieces_climb (q + 1) e xs r.1)
pieces_climb p e (closing q ∷ xs) r = climbing_lower scan_refusal 2 _ _ (pieces_faults xs) (omega (arith, r.0)) (pieces_climb (q + 1) e xs r.1)
pieces_climb p e (spelled w q ∷ xs) r = word_climbs (ltb 16 (length w)) (out_of_range (value w)) q (32 * p) (pieces_faults xs) (omega (arith, r.0)) (pieces_climb (q + 1) e xs r.1)
pieces_climb p e (foreign b q ∷ xs) r = (refl, omega arith, omega (arith, r.0), climbing_lower scan_refusal 2 _ _ (pieces_faults xs) (omega arith) (pieces_climb (q + 1) e xs r.1))

text_climbs : (text : List ℕ) → Climbing scan_refusal 2 0 (pieces_faults (pieces_of text))
text_climbs text = climbing_lower scan_refusal 2 _ _ (pieces_faults (pieces_of text)) (omega arith) (pieces_climb 0 (length text) (pieces_of text) (rises text))

length_climbs : (b : Bool) → Climbing scan_refusal 1 0 (when b TextTooLong)
length_climbs true = (refl, omega arith, omega arith, tt)
length_climbs false = tt

pub scan_ascends : (text : List ℕ) → Ascending scan_refusal (scan_faults text)
scan_ascends text =
    let long = when (ltb 8192 (length text)) TextTooLong in
    let others = pieces_faults (pieces_of text) in
    let climbs = length_climbs (ltb 8192 (length text)) in
    ascending_append scan_refusal long others (climbing_ascends scan_refusal 1 0 long climbs) (climbing_ascends scan_refusal 2 0 others (text_climbs text)) (passes scan_refusal 1 2 0 0 long others (omega arith) climbs (text_climbs text))

least_scan : (text : List ℕ) (b : Bool) → ltb 8192 (length text) ≡ b → refused_by scan_refusal (scan_faults text) ≡ refused (first (when b TextTooLong ++ pieces_faults (pieces_of text)))
least_scan text b e =
    ap refused (least_first scan_refusal (scan_faults text) (scan_ascends text))
    ∙ ap (λ b. refused (first (when b TextTooLong ++ pieces_faults (pieces_of text)))) e

pub long_is_least : (text : List ℕ) → 8192 < length text → Err TextTooLong ≡ refused_by scan_refusal (scan_faults text)
long_is_least text over = sym (least_scan text true (lt-ltb _ _ over))

pub sound_is_least : (text : List ℕ) → length text ≤ 8192 → sound (items_of text) ≡ refused_by scan_refusal (scan_faults text)
sound_is_least text fits = sound_first (pieces_of text) ∙ sym (least_scan text false (le-ltb _ _ fits))

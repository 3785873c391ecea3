-- The faults of a text stand in order: none comes before one that is listed earlier.
use Rattle.std.proofs.Common.{◌≡◌, ℕ, ◌+◌, ◌*◌, ◌<◌, ◌≤◌, Bool, true, false, cond, leb, List, [], ◌∷◌, ◌++◌, map, length, pos, refl, arith}
use lib.Signed.{le_z}
use Rattle.std.specs.List.{AllByRecursion}
use Rattle.std.proofs.ByRecursion.{All-append}
use Rattle.scanner.specs.Faults.{scan_refusal, scan_faults, when}
use Rattle.scanner.specs.Scans.{lexemes_of}
use Rattle.scanner.specs.Words.{Lexeme, opens, closes, name, number}
use Rattle.scanner.specs.declared.fault.ScanFault.{ScanFault}
use Rattle.scanner.specs.declared.fault.ScanFault.TheVariants.{TextTooLong, ForeignByte, WordTooLong, OutOfRange}
use Rattle.scanner.proofs.Ascents.{Ascending, NotBehind, ascending_append, Climbing, climbing_lower, climbing_ascends, before_pass, passes}
use Rattle.scanner.proofs.Firsts.{scan_ascends}
use Rattle.scanner.proofs.Rises.{Rising, lexeme_place, lexemes_rise}
use Rattle.reader.specs.Definitions.{Kind, functions, globals, enumerations, others, head_kind, kind_faults, unless, formals_fit, locals_fit, function_faults, function_fits, enumeration_fits, last_value, first_place}
use Rattle.reader.specs.Faults.{form_refusal, shape_faults, forms_of, faults}
use Rattle.reader.specs.Forms.{Forest, none, named, numbered, form, Pile, grow, first_list, other_lists, fits, misfits, tail}
use Rattle.reader.specs.Nests.{nest_faults, turn, turn_faults, end_faults}
use Rattle.reader.specs.declared.fault.FormFault.{FormFault}
use Rattle.reader.specs.declared.fault.FormFault.TheVariants.{Scan, NotOneForm, TooDeep, NoShape, LastOutOfRange}
use Rattle.reader.specs.declared.nesting.Nesting.{Nesting}
use Rattle.reader.specs.declared.nesting.Nesting.TheVariants.{Before, Inside, After}

-- the scanner's faults keep their order
scans : (f : ScanFault) (fs : List ScanFault) → AllByRecursion (NotBehind scan_refusal f) fs → AllByRecursion (NotBehind form_refusal (Scan f)) (map Scan fs)
scans f [] h = tt
scans f (g ∷ gs) h = (h.0, scans f gs h.1)

scan_order : (fs : List ScanFault) → Ascending scan_refusal fs → Ascending form_refusal (map Scan fs)
scan_order [] h = tt
scan_order (f ∷ fs) h = (scans f fs h.0, scan_order fs h.1)

-- one fault, or none, at a place from which on the others stand
module _ (k n p x : ℕ) (f : FormFault) (fs : List FormFault) (pass_is : (form_refusal f).pass ≡ k) (number_is : (form_refusal f).number ≡ n) (place_is : (form_refusal f).place ≡ p) (few : n < 32) (le : x ≤ 32 * p) (h : Climbing form_refusal k (32 * (p + 1)) fs) where
  climbs_on : Climbing form_refusal k x (f ∷ fs)
  climbs_on =
      (pass_is, omega arith, omega arith, climbing_lower form_refusal k _ (32 * (p + 1)) fs (omega arith) h)

  climbs_past : Climbing form_refusal k x fs
  climbs_past = climbing_lower form_refusal k x (32 * (p + 1)) fs (omega arith) h

  climbs_when : (b : Bool) → Climbing form_refusal k x (when b f ++ fs)
  climbs_when true = climbs_on
  climbs_when false = climbs_past

  climbs_unless : (b : Bool) → Climbing form_refusal k x (unless b f ++ fs)
  climbs_unless true = climbs_past
  climbs_unless false = climbs_on

module _ (p x : ℕ) (fs : List FormFault) (le : x ≤ 32 * p) (h : Climbing form_refusal 3 (32 * (p + 1)) fs) where
  stray : Climbing form_refusal 3 x (NotOneForm p ∷ fs)
  stray = climbs_on 3 5 p x (NotOneForm p) fs refl refl refl (omega arith) le h

  fine : Climbing form_refusal 3 x fs
  fine = climbing_lower form_refusal 3 x (32 * (p + 1)) fs (omega arith) h

turn_climbs : (s : Nesting) (l : Lexeme) (x : ℕ) (fs : List FormFault) → x ≤ 32 * lexeme_place l → Climbing form_refusal 3 (32 * (lexeme_place l + 1)) fs → Climbing form_refusal 3 x (turn_faults s l ++ fs)
turn_climbs Before (opens p) x fs le h = fine p x fs le h
turn_climbs Before (closes p) x fs le h = stray p x fs le h
turn_climbs Before (name w p) x fs le h = stray p x fs le h
turn_climbs Before (number w v p) x fs le h = stray p x fs le h
turn_climbs (Inside d) (opens p) x fs le h = climbs_when 3 6 p x (TooDeep p) fs refl refl refl (omega arith) le h (leb 32 d)
turn_climbs (Inside d) (closes p) x fs le h = fine p x fs le h
turn_climbs (Inside d) (name w p) x fs le h = fine p x fs le h
turn_climbs (Inside d) (number w v p) x fs le h = fine p x fs le h
turn_climbs After (opens p) x fs le h = stray p x fs le h
turn_climbs After (closes p) x fs le h = stray p x fs le h
turn_climbs After (name w p) x fs le h = stray p x fs le h
turn_climbs After (number w v p) x fs le h = stray p x fs le h

end_climbs : (s : Nesting) (p e : ℕ) → p ≤ e → Climbing form_refusal 3 (32 * p) (end_faults s e)
end_climbs Before p e le = (refl, omega arith, omega arith, tt)
end_climbs (Inside d) p e le = (refl, omega arith, omega arith, tt)
end_climbs After p e le = tt

nest_climbs : (s : Nesting) (p e : ℕ) (ls : List Lexeme) → Rising p e ls → Climbing form_refusal 3 (32 * p) (nest_faults s e ls)
nest_climbs s p e [] r = end_climbs s p e r
nest_climbs s p e (l ∷ ls) r = turn_climbs s l (32 * p) (nest_faults (turn s l) e ls) (omega (arith, r.0)) (nest_climbs (turn s l) (lexeme_place l + 1) e ls r.1)

-- the forms of a list stand, in reading order, from p on and before q
abbrev pub Span : ℕ → Forest → ℕ → Type 0
Span p none q = p ≤ q
Span p (named w a rest) q = Span p rest q
Span p (numbered w v a rest) q = Span p rest q
Span p (form a f rest) q = (p ≤ a) × (mid : ℕ) × Span (a + 1) f mid × Span mid rest q

abbrev Spans : ℕ → List Forest → Type 0
Spans p [] = Unit {0}
Spans p (f ∷ fs) = (q : ℕ) × Span p f q × Spans q fs

span_order : (p : ℕ) (f : Forest) (q : ℕ) → Span p f q → p ≤ q
span_order p none q s = s
span_order p (named w a rest) q s = span_order p rest q s
span_order p (numbered w v a rest) q s = span_order p rest q s
span_order p (form a f rest) q s = omega (arith, s.0, span_order (a + 1) f s.1 s.2, span_order s.1 rest q s.3)

span_lower : (p p' : ℕ) (f : Forest) (q : ℕ) → p ≤ p' → Span p' f q → Span p f q
span_lower p p' none q le s = omega arith
span_lower p p' (named w a rest) q le s = span_lower p p' rest q le s
span_lower p p' (numbered w v a rest) q le s = span_lower p p' rest q le s
span_lower p p' (form a f rest) q le s = (omega (arith, s.0), s.1, s.2, s.3)

abbrev Laid : ℕ → Pile → Type 0
Laid p s = (q : ℕ) × Span p s.here q × Spans q s.around

lay_form : (p a : ℕ) (f : Forest) (fs : List Forest) → p ≤ a → (q : ℕ) → Span (a + 1) f q → Spans q fs → Laid p (record { here = form a f (first_list fs); around = other_lists fs })
lay_form p a f [] le q s ss = (q, (le, q, s, omega arith), tt)
lay_form p a f (g ∷ fs) le q s ss = (ss.0, (le, q, s, ss.1), ss.2)

laid : (p e : ℕ) (ls : List Lexeme) → Rising p e ls → Laid p (grow ls)
laid p e [] r = (p, omega arith, tt)
laid p e (opens a ∷ ls) r = let l = laid (a + 1) e ls r.1 in lay_form p a (grow ls).here (grow ls).around r.0 l.0 l.1 l.2
laid p e (closes a ∷ ls) r = let l = laid (a + 1) e ls r.1 in (a + 1, omega (arith, r.0), (l.0, l.1, l.2))
laid p e (name w a ∷ ls) r = let l = laid (a + 1) e ls r.1 in (l.0, span_lower p (a + 1) (grow ls).here l.0 (omega (arith, r.0)) l.1, l.2)
laid p e (number w v a ∷ ls) r = let l = laid (a + 1) e ls r.1 in (l.0, span_lower p (a + 1) (grow ls).here l.0 (omega (arith, r.0)) l.1, l.2)

-- places that rise from p on and stay below q
abbrev Within : ℕ → ℕ → List ℕ → Type 0
Within p q [] = p ≤ q
Within p q (x ∷ xs) = (p ≤ x) × Within (x + 1) q xs

within_append : (p m q : ℕ) (xs ys : List ℕ) → Within p m xs → Within m q ys → Within p q (xs ++ ys)
within_append p m q [] [] a b = omega arith
within_append p m q [] (y ∷ ys) a b = (omega (arith, b.0), b.1)
within_append p m q (x ∷ xs) ys a b = (a.0, within_append (x + 1) m q xs ys a.1 b)

own_within : (b : Bool) (p a m : ℕ) (xs : List ℕ) → p ≤ a → a + 1 ≤ m → Within (a + 1) m xs → Within p m (cond b xs (a ∷ []))
own_within true p a m [] le lt w = omega arith
own_within true p a m (x ∷ xs) le lt w = (omega (arith, w.0), w.1)
own_within false p a m xs le lt w = (le, lt)

misfits_within : (p : ℕ) (f : Forest) (q : ℕ) → Span p f q → Within p q (misfits f)
misfits_within p none q s = s
misfits_within p (named w a rest) q s = misfits_within p rest q s
misfits_within p (numbered w v a rest) q s = misfits_within p rest q s
misfits_within p (form a f rest) q s =
    within_append p s.1 q (cond (fits f) (misfits f) (a ∷ [])) (misfits rest)
    (own_within (fits f) p a s.1 (misfits f) s.0 (span_order (a + 1) f s.1 s.2) (misfits_within (a + 1) f s.1 s.2))
    (misfits_within s.1 rest q s.3)

within_climbs : (p q : ℕ) (xs : List ℕ) → Within p q xs → Climbing form_refusal 4 (32 * p) (map NoShape xs)
within_climbs p q [] w = tt
within_climbs p q (x ∷ xs) w = climbs_on 4 7 x (32 * p) (NoShape x) (map NoShape xs) refl refl refl (omega arith) (omega (arith, w.0)) (within_climbs (x + 1) q xs w.1)

no_shape_climbs : (p : ℕ) → Climbing form_refusal 4 0 (NoShape p ∷ [])
no_shape_climbs p = (refl, omega arith, omega arith, tt)

unless_climbs : (b : Bool) (p : ℕ) → Climbing form_refusal 4 0 (unless b (NoShape p))
unless_climbs true p = tt
unless_climbs false p = no_shape_climbs p

last_climbs : (b c : Bool) (p q : ℕ) → Climbing form_refusal 4 0 (cond b (unless c (LastOutOfRange q)) (NoShape p ∷ []))
last_climbs true true p q = tt
last_climbs true false p q = (refl, omega arith, omega arith, tt)
last_climbs false c p q = no_shape_climbs p

parts_climb : (c : Bool) (p a₁ a₂ q : ℕ) (w : List ℕ) (n : ℕ) (f g b : Forest) → Span 0 (form a₁ f (form a₂ g b)) q → Climbing form_refusal 4 0 (cond c (unless (formals_fit (named w n (form a₁ f (form a₂ g b)))) (NoShape a₁) ++ (unless (locals_fit (named w n (form a₁ f (form a₂ g b)))) (NoShape a₂) ++ map NoShape (misfits b))) (NoShape p ∷ []))
parts_climb false p a₁ a₂ q w n f g b s = no_shape_climbs p
parts_climb true p a₁ a₂ q w n f g b s =
    let F = named w n (form a₁ f (form a₂ g b)) in
    let outer = span_order (a₁ + 1) f s.1 s.2 in
    let inner = span_order (a₂ + 1) g s.3.1 s.3.2 in
    let rest = climbing_lower form_refusal 4 (32 * (a₂ + 1)) (32 * s.3.1) (map NoShape (misfits b)) (omega arith) (within_climbs s.3.1 q (misfits b) (misfits_within s.3.1 b q s.3.3)) in
    let more = climbs_unless 4 7 a₂ (32 * (a₁ + 1)) (NoShape a₂) (map NoShape (misfits b)) refl refl refl (omega arith) (omega (arith, s.3.0)) rest (locals_fit F) in
    climbs_unless 4 7 a₁ 0 (NoShape a₁) (unless (locals_fit F) (NoShape a₂) ++ map NoShape (misfits b)) refl refl refl (omega arith) (omega arith) more (formals_fit F)

function_climbs : (p q : ℕ) (f : Forest) → Span 0 f q → Climbing form_refusal 4 0 (function_faults p f)
function_climbs p q none s = no_shape_climbs p
function_climbs p q (numbered w v a rest) s = no_shape_climbs p
function_climbs p q (form a f rest) s = no_shape_climbs p
function_climbs p q (named w a none) s = no_shape_climbs p
function_climbs p q (named w a (named w' a' rest)) s = no_shape_climbs p
function_climbs p q (named w a (numbered w' v a' rest)) s = no_shape_climbs p
function_climbs p q (named w a (form a₁ f none)) s = no_shape_climbs p
function_climbs p q (named w a (form a₁ f (named w' a' rest))) s = no_shape_climbs p
function_climbs p q (named w a (form a₁ f (numbered w' v a' rest))) s = no_shape_climbs p
function_climbs p q (named w a (form a₁ f (form a₂ g b))) s = parts_climb (function_fits (named w a (form a₁ f (form a₂ g b)))) p a₁ a₂ q w a f g b s

kind_climbs : (k : Kind) (p q : ℕ) (f : Forest) → Span 0 f q → Climbing form_refusal 4 0 (kind_faults k p f)
kind_climbs functions p q f s = function_climbs p q f s
kind_climbs globals p q f s = unless_climbs _ p
kind_climbs enumerations p q f s = last_climbs (enumeration_fits f) (le_z (last_value f) (pos 8388607)) p (first_place f)
kind_climbs others p q f s = no_shape_climbs p

span_tail : (p : ℕ) (f : Forest) (q : ℕ) → Span p f q → Span 0 (tail f) q
span_tail p none q s = omega arith
span_tail p (named w a rest) q s = span_lower 0 p rest q (omega arith) s
span_tail p (numbered w v a rest) q s = span_lower 0 p rest q (omega arith) s
span_tail p (form a f rest) q s = span_lower 0 s.1 rest q (omega arith) s.3

shape_climbs : (p : ℕ) (f : Forest) (q : ℕ) → Span p f q → Climbing form_refusal 4 0 (shape_faults f)
shape_climbs p none q s = tt
shape_climbs p (named w a rest) q s = tt
shape_climbs p (numbered w v a rest) q s = tt
shape_climbs p (form a f rest) q s = kind_climbs (head_kind f) a s.1 (tail f) (span_tail (a + 1) f s.1 s.2)

-- a fault of the scanner is of an earlier pass than those behind it
scan_pass : (f : ScanFault) → (scan_refusal f).pass ≤ 2
scan_pass TextTooLong = omega arith
scan_pass (ForeignByte p) = omega arith
scan_pass (WordTooLong p) = omega arith
scan_pass (OutOfRange p) = omega arith

scan_early : (k y : ℕ) (fs : List ScanFault) (gs : List FormFault) → 2 < k → Climbing form_refusal k y gs → AllByRecursion (λ f. AllByRecursion (NotBehind form_refusal f) gs) (map Scan fs)
scan_early k y [] gs lt b = tt
scan_early k y (f ∷ fs) gs lt b = (before_pass form_refusal k y (Scan f) gs (omega (arith, scan_pass f)) b, scan_early k y fs gs lt b)

early_both : (fs gs hs : List FormFault) → AllByRecursion (λ f. AllByRecursion (NotBehind form_refusal f) gs) fs → AllByRecursion (λ f. AllByRecursion (NotBehind form_refusal f) hs) fs → AllByRecursion (λ f. AllByRecursion (NotBehind form_refusal f) (gs ++ hs)) fs
early_both [] gs hs a b = tt
early_both (f ∷ fs) gs hs a b = (All-append (NotBehind form_refusal f) gs hs a.0 b.0, early_both fs gs hs a.1 b.1)

pub faults_ascend : (text : List ℕ) → Ascending form_refusal (faults text)
faults_ascend text =
    let ls = lexemes_of text in
    let rising = lexemes_rise text in
    let l = laid 0 (length text) ls rising in
    let nests = nest_faults Before (length text) ls in
    let shapes = shape_faults (forms_of text) in
    let nests_climb = nest_climbs Before 0 (length text) ls rising in
    let shapes_climb = shape_climbs 0 (forms_of text) l.0 l.1 in
    ascending_append form_refusal (map Scan (scan_faults text)) (nests ++ shapes) (scan_order (scan_faults text) (scan_ascends text))
    (ascending_append form_refusal nests shapes (climbing_ascends form_refusal 3 (32 * 0) nests nests_climb) (climbing_ascends form_refusal 4 0 shapes shapes_climb) (passes form_refusal 3 4 (32 * 0) 0 nests shapes (omega arith) nests_climb shapes_climb))
    (early_both (map Scan (scan_faults text)) nests shapes (scan_early 3 (32 * 0) (scan_faults text) nests (omega arith) nests_climb) (scan_early 4 0 (scan_faults text) shapes (omega arith) shapes_climb))

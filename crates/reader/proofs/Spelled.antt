-- The tokens of an accepted text are those of its definition.
use Rattle.std.proofs.Common.{◌≡◌, ℕ, ◌+◌, Bool, true, false, cond, eqb, leb, List, [], ◌∷◌, ◌++◌, map, length, pos, codes, sym, refl, ap, ◌∙◌, subst, arith}
use lib.Signed.{le_z}
use Rattle.std.proofs.lemmas.List.{append-nil}
use Rattle.std.proofs.lemmas.Bool.{eqb-true, and_parts}
use Rattle.scanner.specs.Faults.{scan_faults}
use Rattle.scanner.specs.Scans.{lexemes_of}
use Rattle.reader.specs.Definitions.{Kind, functions, globals, enumerations, others, kind, kind_faults, kind_defined, unless, names_in, formals_fit, locals_fit, function_fits, function_faults, function_defined, global_faults, global_defined, enumeration_fits, last_value, enumeration_faults, enumeration_defined, definition_faults, defined}
use Rattle.reader.specs.Faults.{faults, forms_of, shape_faults, first_defined}
use Rattle.reader.specs.Forms.{Forest, none, named, numbered, form, grow, count, only_names, misfits}
use Rattle.reader.specs.Keywords.{keyword}
use Rattle.reader.specs.Nests.{nest_faults}
use Rattle.reader.specs.Spelling.{spelled, in_parentheses, forest_spelled, names_spelled, Spells, NothingIsLost}
use Rattle.reader.specs.declared.fault.FormFault.{FormFault}
use Rattle.reader.specs.declared.fault.FormFault.TheVariants.{Scan, NoShape, LastOutOfRange}
use Rattle.reader.specs.declared.nesting.Nesting.TheVariants.{Before}
use Rattle.reader.proofs.Flat.{form_spelled}
use Rattle.reader.proofs.Heads.{Head, head_is}
use Rattle.reader.proofs.Nested.{one_form}
use Rattle.reader.proofs.Values.{ValuedForest, forms_valued}
use Rattle.reader.proofs.Whole.{accepted, reading_first}

-- names are all that there is
names_are_all : (f : Forest) → only_names f ≡ true → forest_spelled f ≡ names_spelled (names_in f)
names_are_all none h = refl
names_are_all (named w p rest) h = ap (λ ws. w ∷ ws) (names_are_all rest h)
names_are_all (numbered w v p rest) h = cc
names_are_all (form p f rest) h = cc

count_none : (f : Forest) → count f ≡ 0 → f ≡ none
count_none none h = refl
count_none (named w p rest) h = absurd (omega arith)
count_none (numbered w v p rest) h = absurd (omega arith)
count_none (form p f rest) h = absurd (omega arith)

-- what has no fault fits
unless_fits : (b : Bool) (x : FormFault) → unless b x ≡ [] → b ≡ true
unless_fits true x h = refl
unless_fits false x h = cc

cond_fits : (b : Bool) (x : FormFault) (fs : List FormFault) → cond b fs (x ∷ []) ≡ [] → b ≡ true
cond_fits true x fs h = refl
cond_fits false x fs h = cc

parts_fit : (a b c : Bool) (x y z : FormFault) (fs : List FormFault) → cond a (unless b x ++ (unless c y ++ fs)) (z ∷ []) ≡ [] → (b ≡ true) × (c ≡ true)
parts_fit true true true x y z fs h = (refl, refl)
parts_fit true true false x y z fs h = cc
parts_fit true false c x y z fs h = cc
parts_fit false b c x y z fs h = cc

function_spelled : (p : ℕ) (f : Forest) → function_faults p f ≡ [] → Spells (in_parentheses (codes "def" ∷ forest_spelled f)) (function_defined f)
function_spelled p none h = cc
function_spelled p (numbered w v a rest) h = cc
function_spelled p (form a f rest) h = cc
function_spelled p (named w a none) h = cc
function_spelled p (named w a (named w' a' rest)) h = cc
function_spelled p (named w a (numbered w' v a' rest)) h = cc
function_spelled p (named w a (form a₁ f none)) h = cc
function_spelled p (named w a (form a₁ f (named w' a' rest))) h = cc
function_spelled p (named w a (form a₁ f (numbered w' v a' rest))) h = cc
function_spelled p (named w a (form a₁ f (form a₂ g b))) h =
    let whole = named w a (form a₁ f (form a₂ g b)) in
    let fit = parts_fit (function_fits whole) (formals_fit whole) (locals_fit whole) (NoShape a₁) (NoShape a₂) (NoShape p) (map NoShape (misfits b)) h in
    let formals = names_are_all f (and_parts (only_names f) (leb (count f) 15) fit.0).0 in
    let locals = names_are_all g (and_parts (only_names g) (leb (count f + count g) 64) fit.1).0 in
    λ i. in_parentheses (codes "def" ∷ (w ∷ (in_parentheses (formals i) ++ (in_parentheses (locals i) ++ forest_spelled b))))

global_spelled : (p : ℕ) (f : Forest) → global_faults p f ≡ [] → Spells (in_parentheses (codes "let" ∷ forest_spelled f)) (global_defined f)
global_spelled p none h = cc
global_spelled p (named w a rest) h =
    let one : 1 + count rest ≡ 1 = eqb-true (1 + count rest) 1 (unless_fits (eqb (1 + count rest) 1) (NoShape p) h) in
    ap (λ f. in_parentheses (codes "let" ∷ (w ∷ forest_spelled f))) (count_none rest (omega arith))
global_spelled p (numbered w v a rest) h = cc
global_spelled p (form a f rest) h = cc

enumeration_spelled : (p : ℕ) (f : Forest) → ValuedForest f → enumeration_faults p f ≡ [] → Spells (in_parentheses (codes "enum" ∷ forest_spelled f)) (enumeration_defined f)
enumeration_spelled p none v h = cc
enumeration_spelled p (named w a rest) v h = cc
enumeration_spelled p (numbered w n a rest) v h =
    let fit = cond_fits (enumeration_fits (numbered w n a rest)) (NoShape p) (unless (le_z (last_value (numbered w n a rest)) (pos 8388607)) (LastOutOfRange a)) h in
    let names = names_are_all rest (and_parts (only_names rest) (leb 1 (count rest)) fit).0 in
    (w, v.0, ap (λ ws. in_parentheses (codes "enum" ∷ (w ∷ ws))) names)
enumeration_spelled p (form a f rest) v h = cc

kind_spelled : (k : Kind) (p : ℕ) (w : List ℕ) (f : Forest) → Head k w → ValuedForest f → kind_faults k p f ≡ [] → Spells (in_parentheses (w ∷ forest_spelled f)) (kind_defined k f)
kind_spelled functions p w f e v h = subst (λ w. Spells (in_parentheses (w ∷ forest_spelled f)) (function_defined f)) (sym e) (function_spelled p f h)
kind_spelled globals p w f e v h = subst (λ w. Spells (in_parentheses (w ∷ forest_spelled f)) (global_defined f)) (sym e) (global_spelled p f h)
kind_spelled enumerations p w f e v h = subst (λ w. Spells (in_parentheses (w ∷ forest_spelled f)) (enumeration_defined f)) (sym e) (enumeration_spelled p f v h)
kind_spelled others p w f e v h = cc

definition_spelled : (p : ℕ) (f : Forest) → ValuedForest f → definition_faults p f ≡ [] → Spells (in_parentheses (forest_spelled f)) (defined f)
definition_spelled p none v h = cc
definition_spelled p (named w a rest) v h = kind_spelled (kind (keyword w)) p w rest (head_is w) v h
definition_spelled p (numbered w n a rest) v h = cc
definition_spelled p (form a f rest) v h = cc

-- a form alone
alone_spelled : (p : ℕ) (f g : Forest) → g ≡ form p f none → ValuedForest g → shape_faults g ≡ [] → Spells (forest_spelled g) (first_defined g)
alone_spelled p f g e =
    subst (λ g. ValuedForest g → shape_faults g ≡ [] → Spells (forest_spelled g) (first_defined g)) (sym e)
    (λ v h. subst (λ ws. Spells ws (defined f)) (sym (append-nil (in_parentheses (forest_spelled f)))) (definition_spelled p f v.0 h))

both_empty : (xs ys : List FormFault) → xs ++ ys ≡ [] → (xs ≡ []) × (ys ≡ [])
both_empty [] ys h = (refl, h)
both_empty (x ∷ xs) ys h = cc

pub nothing_is_lost : (text : List ℕ) → NothingIsLost text
nothing_is_lost text d read =
    let ls = lexemes_of text in
    let f = forms_of text in
    let a = accepted (faults text) (first_defined f) d (sym (reading_first text) ∙ read) in
    let past_scan = both_empty (map Scan (scan_faults text)) (nest_faults Before (length text) ls ++ shape_faults f) a.0 in
    let past_nest = both_empty (nest_faults Before (length text) ls) (shape_faults f) past_scan.1 in
    let o = one_form (length text) ls past_nest.0 in
    let spells = alone_spelled o.place (grow o.rest).here f (ap (λ s. s.here) o.alone) (forms_valued text) past_nest.1 in
    let tokens = subst (λ ws. Spells ws (first_defined f)) (sym (form_spelled (length text) ls past_nest.0)) spells in
    subst (λ d. Spells (map spelled ls) d) a.1 tokens

-- What is found of a text moves with the places of its pieces.
use Rattle.std.proofs.Common.{◌≡◌, ℕ, ◌+◌, ◌-◌, Bool, true, false, cond, ◌&&◌, eqb, ltb, leb, List, [], ◌∷◌, ◌++◌, map, length, ℤ, pos, ◌+ℤ◌, Some, None, Ok, Err, Option, refl, ap, ◌∙◌}
use lib.Signed.{le_z}
use Rattle.std.proofs.lemmas.List.{map-append}
use Rattle.std.proofs.lemmas.Simd.{map-map}
use Rattle.scanner.specs.Faults.{when, pieces_faults}
use Rattle.scanner.specs.Gaps.{at_place}
use Rattle.scanner.specs.Pieces.{Piece, opening, closing, spelled, foreign}
use Rattle.scanner.specs.Scans.{lexemes}
use Rattle.scanner.specs.Words.{Lexeme, opens, closes, name, number, Item, item, in_range, judged, value, word_item}
use Rattle.scanner.specs.declared.fault.ScanFault.{ScanFault}
use Rattle.scanner.specs.declared.fault.ScanFault.TheVariants.{ForeignByte, WordTooLong, OutOfRange}
use Rattle.reader.specs.Definitions.{Defined, function, global, enumeration, a_name, names_in, unless, Kind, functions, globals, enumerations, others, kind, kind_faults, kind_defined, function_faults, function_defined, global_faults, global_defined, enumeration_faults, enumeration_defined, definition_faults, defined}
use Rattle.reader.specs.Forms.{Forest, none, named, numbered, form, Pile, grow, first_list, other_lists, count, leading, only_names, fits_shape, fits, misfits}
use Rattle.reader.specs.Keywords.{keyword}
use Rattle.reader.specs.Nests.{first_of, nest_faults}
use Rattle.reader.specs.Shapes.{shape, takes}
use Rattle.reader.specs.Spacing.{scan_fault_at, fault_at, forest_at, name_at, defined_at, reading_at}
use Rattle.reader.specs.declared.fault.FormFault.TheVariants.{Scan, NotOneForm, NoShape, LastOutOfRange}
use Rattle.reader.specs.declared.nesting.Nesting.{Nesting}
use Rattle.reader.specs.declared.nesting.Nesting.TheVariants.{Before, Inside, After}
use Rattle.reader.specs.declared.shape.Shape.{Shape}

-- the same with each place p at f p
abbrev pub lexeme_at : (ℕ → ℕ) → Lexeme → Lexeme
lexeme_at f (opens p) = opens (f p)
lexeme_at f (closes p) = closes (f p)
lexeme_at f (name w p) = name w (f p)
lexeme_at f (number w v p) = number w v (f p)

abbrev pub pile_at : (ℕ → ℕ) → Pile → Pile
pile_at f s = record { here = forest_at f s.here; around = map (forest_at f) s.around }

map-when : {A B : Type 0} (g : A → B) (b : Bool) (x : A) → map g (when b x) ≡ when b (g x)
map-when g true x = refl
map-when g false x = refl

map-cond : (g : ℕ → ℕ) (b : Bool) (xs ys : List ℕ) → map g (cond b xs ys) ≡ cond b (map g xs) (map g ys)
map-cond g true xs ys = refl
map-cond g false xs ys = refl

module _ (f : ℕ → ℕ) where
  -- the scanner's faults
  pub pieces_faults_move : (xs : List Piece) → pieces_faults (map (at_place f) xs) ≡ map (scan_fault_at f) (pieces_faults xs)
  pieces_faults_move [] = refl
  pieces_faults_move (opening p ∷ xs) = pieces_faults_move xs
  pieces_faults_move (closing p ∷ xs) = pieces_faults_move xs
  pieces_faults_move (spelled w p ∷ xs) = simp (map-append, map-when, pieces_faults_move xs)
  pieces_faults_move (foreign b p ∷ xs) = ap (λ fs. ForeignByte (f p) ∷ fs) (pieces_faults_move xs)

  pub scans_move : (fs : List ScanFault) → map Scan (map (scan_fault_at f) fs) ≡ map (fault_at f) (map Scan fs)
  scans_move fs = simp map-map

  -- the tokens
  number_moves : (b : Bool) (v : ℤ) (w : List ℕ) (p : ℕ) (is js : List Item) → lexemes js ≡ map (lexeme_at f) (lexemes is) → lexemes (cond b (Ok (number w v (f p))) (Err (OutOfRange (f p))) ∷ js) ≡ map (lexeme_at f) (lexemes (cond b (Ok (number w v p)) (Err (OutOfRange p)) ∷ is))
  number_moves true v w p is js e = ap (λ ls. number w v (f p) ∷ ls) e
  number_moves false v w p is js e = e

  word_moves : (b : Bool) (o : Option ℤ) (w : List ℕ) (p : ℕ) (is js : List Item) → lexemes js ≡ map (lexeme_at f) (lexemes is) → lexemes (cond b (Err (WordTooLong (f p))) (judged o w (f p)) ∷ js) ≡ map (lexeme_at f) (lexemes (cond b (Err (WordTooLong p)) (judged o w p) ∷ is))
  word_moves true o w p is js e = e
  word_moves false None w p is js e = ap (λ ls. name w (f p) ∷ ls) e
  word_moves false (Some v) w p is js e = number_moves (in_range v) v w p is js e

  pub lexemes_move : (xs : List Piece) → lexemes (map item (map (at_place f) xs)) ≡ map (lexeme_at f) (lexemes (map item xs))
  unfolding word_item
  lexemes_move [] = refl
  lexemes_move (opening p ∷ xs) = ap (λ ls. opens (f p) ∷ ls) (lexemes_move xs)
  lexemes_move (closing p ∷ xs) = ap (λ ls. closes (f p) ∷ ls) (lexemes_move xs)
  lexemes_move (spelled w p ∷ xs) = word_moves (ltb 16 (length w)) (value w) w p (map item xs) (map item (map (at_place f) xs)) (lexemes_move xs)
  lexemes_move (foreign b p ∷ xs) = lexemes_move xs

  -- the faults of nesting, in a text that ends at e
  pub nest_faults_move : (s : Nesting) (e : ℕ) (ls : List Lexeme) → nest_faults s (f e) (map (lexeme_at f) ls) ≡ map (fault_at f) (nest_faults s e ls)
  nest_faults_move Before e [] = refl
  nest_faults_move (Inside d) e [] = refl
  nest_faults_move After e [] = refl
  nest_faults_move Before e (opens p ∷ ls) = nest_faults_move (Inside 1) e ls
  nest_faults_move Before e (closes p ∷ ls) = ap (λ fs. NotOneForm (f p) ∷ fs) (nest_faults_move Before e ls)
  nest_faults_move Before e (name w p ∷ ls) = ap (λ fs. NotOneForm (f p) ∷ fs) (nest_faults_move Before e ls)
  nest_faults_move Before e (number w v p ∷ ls) = ap (λ fs. NotOneForm (f p) ∷ fs) (nest_faults_move Before e ls)
  nest_faults_move (Inside d) e (opens p ∷ ls) = simp (map-append, map-when, nest_faults_move (Inside (d + 1)) e ls)
  nest_faults_move (Inside d) e (closes p ∷ ls) = nest_faults_move (cond (leb d 1) After (Inside (d - 1))) e ls
  nest_faults_move (Inside d) e (name w p ∷ ls) = nest_faults_move (Inside d) e ls
  nest_faults_move (Inside d) e (number w v p ∷ ls) = nest_faults_move (Inside d) e ls
  nest_faults_move After e (opens p ∷ ls) = ap (λ fs. NotOneForm (f p) ∷ fs) (nest_faults_move After e ls)
  nest_faults_move After e (closes p ∷ ls) = ap (λ fs. NotOneForm (f p) ∷ fs) (nest_faults_move After e ls)
  nest_faults_move After e (name w p ∷ ls) = ap (λ fs. NotOneForm (f p) ∷ fs) (nest_faults_move After e ls)
  nest_faults_move After e (number w v p ∷ ls) = ap (λ fs. NotOneForm (f p) ∷ fs) (nest_faults_move After e ls)

  -- the forms
  opened_moves : (p : ℕ) (inner : Forest) (fs : List Forest) → ◌≡◌ {A = Pile} (record { here = form (f p) (forest_at f inner) (first_list (map (forest_at f) fs)); around = other_lists (map (forest_at f) fs) }) (pile_at f (record { here = form p inner (first_list fs); around = other_lists fs }))
  opened_moves p inner [] = refl
  opened_moves p inner (g ∷ fs) = refl

  pub grow_moves : (ls : List Lexeme) → grow (map (lexeme_at f) ls) ≡ pile_at f (grow ls)
  grow_moves [] = refl
  grow_moves (opens p ∷ ls) =
      ap (λ (s : Pile). record { here = form (f p) s.here (first_list s.around); around = other_lists s.around }) (grow_moves ls)
      ∙ opened_moves p (grow ls).here (grow ls).around
  grow_moves (closes p ∷ ls) = ap (λ (s : Pile). record { here = none; around = s.here ∷ s.around }) (grow_moves ls)
  grow_moves (name w p ∷ ls) = ap (λ (s : Pile). record { here = named w (f p) s.here; around = s.around }) (grow_moves ls)
  grow_moves (number w v p ∷ ls) = ap (λ (s : Pile). record { here = numbered w v (f p) s.here; around = s.around }) (grow_moves ls)

  -- what is found of elements
  count_kept : (t : Forest) → count (forest_at f t) ≡ count t
  count_kept none = refl
  count_kept (named w p rest) = simp (count_kept rest)
  count_kept (numbered w v p rest) = simp (count_kept rest)
  count_kept (form p inner rest) = simp (count_kept rest)

  leading_kept : (t : Forest) → leading (forest_at f t) ≡ leading t
  leading_kept none = refl
  leading_kept (named w p rest) = refl
  leading_kept (numbered w v p rest) = refl
  leading_kept (form p inner rest) = refl

  only_names_kept : (t : Forest) → only_names (forest_at f t) ≡ only_names t
  only_names_kept none = refl
  only_names_kept (named w p rest) = only_names_kept rest
  only_names_kept (numbered w v p rest) = refl
  only_names_kept (form p inner rest) = refl

  fits_shape_kept : (o : Option Shape) (t : Forest) → fits_shape o (forest_at f t) ≡ fits_shape o t
  fits_shape_kept None t = refl
  fits_shape_kept (Some s) t = λ i. takes s (leading_kept t i) (count_kept t i)

  fits_kept : (t : Forest) → fits (forest_at f t) ≡ fits t
  fits_kept none = refl
  fits_kept (named w p rest) = fits_shape_kept (shape (keyword w)) rest
  fits_kept (numbered w v p rest) = refl
  fits_kept (form p inner rest) = refl

  misfits_move : (t : Forest) → misfits (forest_at f t) ≡ map f (misfits t)
  misfits_move none = refl
  misfits_move (named w p rest) = misfits_move rest
  misfits_move (numbered w v p rest) = misfits_move rest
  misfits_move (form p inner rest) = simp (map-append, map-cond, fits_kept inner, misfits_move inner, misfits_move rest)

  names_move : (t : Forest) → names_in (forest_at f t) ≡ map (name_at f) (names_in t)
  names_move none = refl
  names_move (named w p rest) = ap (λ ns. a_name w (f p) ∷ ns) (names_move rest)
  names_move (numbered w v p rest) = refl
  names_move (form p inner rest) = refl

  -- what a definition of each kind is read as
  parts_move : (a b c : Bool) (p q r : ℕ) (xs : List ℕ) (d : Defined) → first_of (cond a (unless b (NoShape (f q)) ++ (unless c (NoShape (f r)) ++ map NoShape (map f xs))) (NoShape (f p) ∷ [])) (defined_at f d) ≡ reading_at f (first_of (cond a (unless b (NoShape q) ++ (unless c (NoShape r) ++ map NoShape xs)) (NoShape p ∷ [])) d)
  parts_move false b c p q r xs d = refl
  parts_move true false c p q r xs d = refl
  parts_move true true false p q r xs d = refl
  parts_move true true true p q r [] d = refl
  parts_move true true true p q r (x ∷ xs) d = refl

  function_moves : (p : ℕ) (t : Forest) → first_of (function_faults (f p) (forest_at f t)) (function_defined (forest_at f t)) ≡ reading_at f (first_of (function_faults p t) (function_defined t))
  function_moves p none = refl
  function_moves p (numbered w v a rest) = refl
  function_moves p (form a inner rest) = refl
  function_moves p (named w a none) = refl
  function_moves p (named w a (named w' a' rest)) = refl
  function_moves p (named w a (numbered w' v a' rest)) = refl
  function_moves p (named w a (form q x none)) = refl
  function_moves p (named w a (form q x (named w' a' rest))) = refl
  function_moves p (named w a (form q x (numbered w' v a' rest))) = refl
  function_moves p (named w a (form q x (form r y z))) =
      (λ i.
      first_of
      (cond (eqb (count_kept z i) 1)
      (unless (only_names_kept x i && leb (count_kept x i) 15) (NoShape (f q))
      ++ (unless (only_names_kept y i && leb (count_kept x i + count_kept y i) 64) (NoShape (f r)) ++ map NoShape (misfits_move z i)))
      (NoShape (f p) ∷ []))
      (function (a_name w (f a)) (names_move x i) (names_move y i) (forest_at f z)))
      ∙ parts_move (eqb (count z) 1) (only_names x && leb (count x) 15) (only_names y && leb (count x + count y) 64) p q r (misfits z) (function (a_name w a) (names_in x) (names_in y) z)

  unless_moves : (b : Bool) (p : ℕ) (d : Defined) → first_of (unless b (NoShape (f p))) (defined_at f d) ≡ reading_at f (first_of (unless b (NoShape p)) d)
  unless_moves true p d = refl
  unless_moves false p d = refl

  global_moves : (p : ℕ) (t : Forest) → first_of (global_faults (f p) (forest_at f t)) (global_defined (forest_at f t)) ≡ reading_at f (first_of (global_faults p t) (global_defined t))
  global_moves p none = refl
  global_moves p (named w a rest) =
      ap (λ n. first_of (unless (eqb (1 + n) 1) (NoShape (f p))) (global (a_name w (f a)))) (count_kept rest)
      ∙ unless_moves (eqb (1 + count rest) 1) p (global (a_name w a))
  global_moves p (numbered w v a rest) = refl
  global_moves p (form a inner rest) = refl

  last_moves : (b c : Bool) (p q : ℕ) (d : Defined) → first_of (cond b (unless c (LastOutOfRange (f q))) (NoShape (f p) ∷ [])) (defined_at f d) ≡ reading_at f (first_of (cond b (unless c (LastOutOfRange q)) (NoShape p ∷ [])) d)
  last_moves true true p q d = refl
  last_moves true false p q d = refl
  last_moves false c p q d = refl

  enumeration_moves : (p : ℕ) (t : Forest) → first_of (enumeration_faults (f p) (forest_at f t)) (enumeration_defined (forest_at f t)) ≡ reading_at f (first_of (enumeration_faults p t) (enumeration_defined t))
  enumeration_moves p none = refl
  enumeration_moves p (named w a rest) = refl
  enumeration_moves p (numbered w v a rest) =
      (λ i.
      first_of
      (cond (only_names_kept rest i && leb 1 (count_kept rest i)) (unless (le_z (v +ℤ pos (count_kept rest i - 1)) (pos 8388607)) (LastOutOfRange (f a))) (NoShape (f p) ∷ []))
      (enumeration v (names_move rest i)))
      ∙ last_moves (only_names rest && leb 1 (count rest)) (le_z (v +ℤ pos (count rest - 1)) (pos 8388607)) p a (enumeration v (names_in rest))
  enumeration_moves p (form a inner rest) = refl

  kind_moves : (k : Kind) (p : ℕ) (t : Forest) → first_of (kind_faults k (f p) (forest_at f t)) (kind_defined k (forest_at f t)) ≡ reading_at f (first_of (kind_faults k p t) (kind_defined k t))
  kind_moves functions p t = function_moves p t
  kind_moves globals p t = global_moves p t
  kind_moves enumerations p t = enumeration_moves p t
  kind_moves others p t = refl

  pub definition_moves : (p : ℕ) (t : Forest) → first_of (definition_faults (f p) (forest_at f t)) (defined (forest_at f t)) ≡ reading_at f (first_of (definition_faults p t) (defined t))
  definition_moves p none = refl
  definition_moves p (named w a rest) = kind_moves (kind (keyword w)) p rest
  definition_moves p (numbered w v a rest) = refl
  definition_moves p (form a inner rest) = refl

-- A gap between the tokens of a text moves the places of what is read, and that is all.
use Rattle.std.proofs.Common.{◌≡◌, ℕ, ◌≤◌, List, [], ◌∷◌, ◌++◌, map, length, sym, refl, ap, ◌∙◌, arith, length-append}
use Rattle.std.proofs.lemmas.Bool.{le-ltb}
use Rattle.std.proofs.lemmas.Bool.Decides.{nat_tests}
use Rattle.scanner.specs.Faults.{scan_faults, pieces_faults, when}
use Rattle.scanner.specs.Gaps.{moved, at_place}
use Rattle.scanner.specs.Pieces.{pieces_of}
use Rattle.scanner.specs.Scans.{lexemes, lexemes_of}
use Rattle.scanner.specs.Words.{Lexeme, item}
use Rattle.scanner.specs.declared.fault.ScanFault.TheVariants.{TextTooLong}
use Rattle.scanner.proofs.Gaps.{gap_moves_pieces}
use Rattle.reader.specs.Definitions.{Defined}
use Rattle.reader.specs.Faults.{forms_of, shape_faults, first_defined, reading}
use Rattle.reader.specs.Forms.{Pile, grow}
use Rattle.reader.specs.Nests.{first_of, nest_faults}
use Rattle.reader.specs.Spacing.{scan_fault_at, fault_at, forest_at, reading_at, SpacingIsFree}
use Rattle.reader.specs.declared.fault.FormFault.{FormFault}
use Rattle.reader.specs.declared.fault.FormFault.TheVariants.{Scan}
use Rattle.reader.specs.declared.nesting.Nesting.TheVariants.{Before}
use Rattle.reader.proofs.Moves.{lexeme_at, pieces_faults_move, scans_move, lexemes_move, nest_faults_move, grow_moves, definition_moves}
use Rattle.reader.proofs.Nested.{OneForm, one_form}
use Rattle.reader.proofs.Whole.{reading_first}

-- a text that is not too long has the faults of its pieces
no_length_fault : (text : List ℕ) → length text ≤ 8192 → scan_faults text ≡ pieces_faults (pieces_of text)
no_length_fault text short = ap (λ b. when b TextTooLong ++ pieces_faults (pieces_of text)) (le-ltb 8192 (length text) short)

module _ (f : ℕ → ℕ) where
  -- faults that move, and behind them what moves where there are none
  behind_moves : (fs hs hs' : List FormFault) (d d' : Defined) → (fs ≡ [] → first_of hs' d' ≡ reading_at f (first_of hs d)) → first_of (map (fault_at f) fs ++ hs') d' ≡ reading_at f (first_of (fs ++ hs) d)
  behind_moves [] hs hs' d d' h = h refl
  behind_moves (x ∷ fs) hs hs' d d' h = refl

  -- the form of a text without faults of nesting
  form_moves : (ls : List Lexeme) → OneForm ls → first_of (shape_faults (forest_at f (grow ls).here)) (first_defined (forest_at f (grow ls).here)) ≡ reading_at f (first_of (shape_faults (grow ls).here) (first_defined (grow ls).here))
  form_moves ls o = rw o.alone (definition_moves f o.place (grow o.rest).here)

  -- a text whose pieces and end are those of another, moved
  module _ (text text' : List ℕ) (short : length text ≤ 8192) (short' : length text' ≤ 8192) (end_moves : length text' ≡ f (length text)) (pieces_move : pieces_of text' ≡ map (at_place f) (pieces_of text)) where
    scans : map Scan (scan_faults text') ≡ map (fault_at f) (map Scan (scan_faults text))
    scans =
        ap (map Scan) (no_length_fault text' short' ∙ ap pieces_faults pieces_move ∙ pieces_faults_move f (pieces_of text) ∙ ap (map (scan_fault_at f)) (sym (no_length_fault text short)))
        ∙ scans_move f (scan_faults text)

    tokens : lexemes_of text' ≡ map (lexeme_at f) (lexemes_of text)
    tokens = ap (λ xs. lexemes (map item xs)) pieces_move ∙ lexemes_move f (pieces_of text)

    nests : nest_faults Before (length text') (lexemes_of text') ≡ map (fault_at f) (nest_faults Before (length text) (lexemes_of text))
    nests = (λ i. nest_faults Before (end_moves i) (tokens i)) ∙ nest_faults_move f Before (length text) (lexemes_of text)

    forms : forms_of text' ≡ forest_at f (forms_of text)
    forms = ap (λ ls. (grow ls).here) tokens ∙ ap (λ (s : Pile). s.here) (grow_moves f (lexemes_of text))

    reading_moves : reading text' ≡ reading_at f (reading text)
    reading_moves =
        let nest = nest_faults Before (length text) (lexemes_of text) in
        reading_first text'
        ∙ (λ i. first_of (scans i ++ (nests i ++ shape_faults (forms i))) (first_defined (forms i)))
        ∙ behind_moves (map Scan (scan_faults text)) (nest ++ shape_faults (forms_of text)) _ (first_defined (forms_of text)) _
        (λ _. behind_moves nest (shape_faults (forms_of text)) _ (first_defined (forms_of text)) _ (λ e. form_moves (lexemes_of text) (one_form (length text) (lexemes_of text) e)))
        ∙ ap (reading_at f) (sym (reading_first text))

-- the end of a text with a gap
end_moves : (a g b : List ℕ) → length (a ++ (g ++ b)) ≡ moved (length a) (length g) (length (a ++ b))
end_moves a g b =
    let whole = length-append a (g ++ b) in
    let back = length-append g b in
    let without = length-append a b in
    grind (arith, nat_tests)

pub spacing_is_free : (text : List ℕ) → SpacingIsFree text
spacing_is_free text a g b is apart gap short =
    let shorter : length (a ++ b) ≤ 8192 = omega (arith, length-append a (g ++ b), length-append g b, length-append a b) in
    reading_moves (moved (length a) (length g)) (a ++ b) (a ++ (g ++ b)) shorter short (end_moves a g b) (gap_moves_pieces a g b apart gap)
    ∙ ap (λ t. reading_at (moved (length a) (length g)) (reading t)) (sym is)

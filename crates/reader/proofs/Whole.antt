-- The reading of a text, from what its passes find.
use Rattle.std.proofs.Common.{◌≡◌, ℕ, ◌≤◌, Bool, true, false, ltb, List, [], ◌∷◌, ◌++◌, map, length, Ok, Err, sym, refl, ap, ◌∙◌, subst, arith}
use Rattle.std.proofs.lemmas.Bool.{ltb-false}
use Rattle.scanner.specs.Faults.{scan_refusal, scan_faults, pieces_faults, refused, refused_by, when}
use Rattle.scanner.specs.Pieces.{pieces_of}
use Rattle.scanner.specs.Scans.{lexemes_of}
use Rattle.scanner.specs.Words.{Lexeme, opens}
use Rattle.scanner.specs.declared.fault.ScanFault.{ScanFault}
use Rattle.scanner.specs.declared.fault.ScanFault.TheVariants.{TextTooLong}
use Rattle.scanner.proofs.Ascents.{first, least_first}
use Rattle.scanner.proofs.Firsts.{scan_ascends}
use Rattle.scanner.proofs.Rises.{lexemes_rise, lexemes_few}
use Rattle.reader.specs.Definitions.{Defined, definition_faults, defined}
use Rattle.reader.specs.Faults.{form_refusal, faults, forms_of, shape_faults, first_defined, chosen, reading}
use Rattle.reader.specs.Forms.{depth, grow, Readable}
use Rattle.reader.specs.Nests.{first_of, nest_faults}
use Rattle.reader.specs.declared.fault.FormFault.{FormFault}
use Rattle.reader.specs.declared.fault.FormFault.TheVariants.{Scan}
use Rattle.reader.specs.declared.nesting.Nesting.TheVariants.{Before}
use Rattle.reader.proofs.Nested.{OneForm, one_form, size_few}
use Rattle.reader.proofs.Order.{faults_ascend}

chosen_first : (fs : List FormFault) (d : Defined) → chosen (first fs) d ≡ first_of fs d
chosen_first [] d = refl
chosen_first (f ∷ fs) d = refl

refused_first : (fs : List ScanFault) → refused (first fs) ≡ first_of fs (tt {0})
refused_first [] = refl
refused_first (f ∷ fs) = refl

scan_begins : (fs : List ScanFault) (f : ScanFault) → first_of fs (tt {0}) ≡ Err f → first_of (map Scan fs) (tt {0}) ≡ Err (Scan f)
scan_begins [] f h = cc
scan_begins (g ∷ fs) f h = let same : g ≡ f = cc in ap (λ g. Err (Scan g)) same

-- what is first stays first where more is listed behind it
begins : {X Y : Type 0} (fs gs : List FormFault) (x : X) (y : Y) (f : FormFault) → first_of fs x ≡ Err f → first_of (fs ++ gs) y ≡ Err f
begins [] gs x y f h = cc
begins (g ∷ fs) gs x y f h = let same : g ≡ f = cc in ap Err same

pub accepted : {F X : Type 0} (fs : List F) (x d : X) → first_of fs x ≡ Ok d → (fs ≡ []) × (x ≡ d)
accepted [] x d h = (refl, cc)
accepted (f ∷ fs) x d h = cc

module _ (text : List ℕ) where
  -- the first fault is the least
  pub reading_first : reading text ≡ first_of (faults text) (first_defined (forms_of text))
  reading_first = ap (λ o. chosen o (first_defined (forms_of text))) (least_first form_refusal (faults text) (faults_ascend text)) ∙ chosen_first (faults text) (first_defined (forms_of text))

  scan_first : refused_by scan_refusal (scan_faults text) ≡ first_of (scan_faults text) (tt {0})
  scan_first = ap refused (least_first scan_refusal (scan_faults text) (scan_ascends text)) ∙ refused_first (scan_faults text)

  -- the scanner finds a fault
  pub scan_refuses : (f : ScanFault) → Err f ≡ refused_by scan_refusal (scan_faults text) → reading text ≡ Err (Scan f)
  scan_refuses f e = reading_first ∙ begins (map Scan (scan_faults text)) _ (tt {0}) _ (Scan f) (scan_begins (scan_faults text) f (sym scan_first ∙ sym e))

  -- it finds none
  module _ (ok : Ok tt ≡ refused_by scan_refusal (scan_faults text)) where
    no_scan_fault : scan_faults text ≡ []
    no_scan_fault = (accepted (scan_faults text) _ _ (sym scan_first ∙ sym ok)).0

    short : length text ≤ 8192
    short = ltb-false 8192 (length text) (no_length_fault (ltb 8192 (length text)) (pieces_faults (pieces_of text)) no_scan_fault)
      where
        no_length_fault : (b : Bool) (fs : List ScanFault) → when b TextTooLong ++ fs ≡ [] → b ≡ false
        no_length_fault true fs h = cc
        no_length_fault false fs h = refl

    past_scan : reading text ≡ first_of (nest_faults Before (length text) (lexemes_of text) ++ shape_faults (forms_of text)) (first_defined (forms_of text))
    past_scan = reading_first ∙ ap (λ fs. first_of (map Scan fs ++ (nest_faults Before (length text) (lexemes_of text) ++ shape_faults (forms_of text))) (first_defined (forms_of text))) no_scan_fault

    pub nest_refuses : (f : FormFault) → Err f ≡ first_of (nest_faults Before (length text) (lexemes_of text)) (tt {0}) → reading text ≡ Err f
    nest_refuses f e = past_scan ∙ begins (nest_faults Before (length text) (lexemes_of text)) _ (tt {0}) _ f (sym e)

    -- neither finds one
    module _ (nested : Ok tt ≡ first_of (nest_faults Before (length text) (lexemes_of text)) (tt {0})) where
      no_nest_fault : nest_faults Before (length text) (lexemes_of text) ≡ []
      no_nest_fault = (accepted (nest_faults Before (length text) (lexemes_of text)) _ _ (sym nested)).0

      -- the tokens are an opening parenthesis and others
      module _ (p : ℕ) (rest : List Lexeme) (begins : lexemes_of text ≡ opens p ∷ rest) where
        form_is : OneForm (lexemes_of text)
        form_is = one_form (length text) (lexemes_of text) no_nest_fault

        same_place : form_is.place ≡ p
        same_place = let e = form_is.begins in cc

        same_rest : form_is.rest ≡ rest
        same_rest = let e = form_is.begins in cc

        pub readable : Readable 31 (grow rest).here
        readable =
            let few = lexemes_few 0 (length text) (lexemes_of text) (lexemes_rise text) in
            let tokens : length (lexemes_of text) ≡ length (opens p ∷ rest) = ap length begins in
            record {
              shallow = subst (λ ls. depth (grow ls).here ≤ 31) same_rest form_is.shallow;
              small = omega (arith, few, tokens, short, size_few rest);
            }

        pub past_nest : reading text ≡ first_of (definition_faults p (grow rest).here) (defined (grow rest).here)
        past_nest =
            past_scan
            ∙ ap (λ fs. first_of (fs ++ shape_faults (forms_of text)) (first_defined (forms_of text))) no_nest_fault
            ∙ ap (λ s. first_of (shape_faults s.here) (first_defined s.here)) form_is.alone
            ∙ (λ i. first_of (definition_faults (same_place i) (grow (same_rest i)).here) (defined (grow (same_rest i)).here))

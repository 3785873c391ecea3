-- The tokens of a text without faults of nesting are those of its form, written out.
use Rattle.std.proofs.Common.{◌≡◌, ℕ, ◌+◌, ◌-◌, ◌<◌, ◌≤◌, leb, List, [], ◌∷◌, ◌++◌, map, codes, sym, refl, ap, ◌∙◌, subst, ⊎_elim, append_assoc, arith}
use Rattle.std.proofs.lemmas.List.{append-nil}
use Rattle.std.proofs.lemmas.Bool.{leb-false}
use Rattle.scanner.specs.Words.{Lexeme, opens, closes, name, number}
use Rattle.reader.specs.Forms.{Forest, form, Pile, grow, first_list, other_lists}
use Rattle.reader.specs.Nests.{nest_faults}
use Rattle.reader.specs.Spelling.{Spelled, spelled, forest_spelled}
use Rattle.reader.specs.declared.fault.FormFault.TheVariants.{TooDeep}
use Rattle.reader.specs.declared.nesting.Nesting.TheVariants.{Before, Inside}
use Rattle.reader.proofs.Nested.{Around, closing, passed, inner, one_form}

-- the lists around go on, each behind a closing parenthesis
abbrev around_spelled : List Forest → List Spelled
around_spelled [] = []
around_spelled (f ∷ fs) = codes ")" ∷ (forest_spelled f ++ around_spelled fs)

abbrev pile_spelled : Pile → List Spelled
pile_spelled s = forest_spelled s.here ++ around_spelled s.around

-- inside a parenthesis some list around goes on, so it is closed
open_spelled : (d p : ℕ) (f : Forest) (fs : List Forest) (ws : List Spelled) → Around d fs → ws ≡ forest_spelled f ++ around_spelled fs → codes "(" ∷ ws ≡ forest_spelled (form p f (first_list fs)) ++ around_spelled (other_lists fs)
open_spelled d p f [] ws a e = absurd a
open_spelled d p f (g ∷ fs) ws a e = ap (λ v. codes "(" ∷ v) e ∙ sym (simp append_assoc)

inner_spelled : (d e : ℕ) (ls : List Lexeme) → 0 < d → d ≤ 32 → nest_faults (Inside d) e ls ≡ [] → map spelled ls ≡ pile_spelled (grow ls)
inner_spelled d e [] some le ok = refl
inner_spelled d e (opens p ∷ ls) some le ok =
    let a = passed (leb 32 d) (TooDeep p) (nest_faults (Inside (d + 1)) e ls) ok in
    let lt : d < 32 = leb-false 32 d a.0 in
    let i = inner (d + 1) e ls (omega arith) (omega arith) a.1 in
    open_spelled (d + 1) p (grow ls).here (grow ls).around (map spelled ls) i.around (inner_spelled (d + 1) e ls (omega arith) (omega arith) a.1)
inner_spelled d e (closes p ∷ ls) some le ok =
    ap (λ v. codes ")" ∷ v)
    (⊎_elim
    (λ more. inner_spelled (d - 1) e ls (omega arith) (omega arith) more.1)
    (λ last. subst (λ l. map spelled l ≡ pile_spelled (grow l)) (sym last.1) refl)
    (closing d e p ls ok))
inner_spelled d e (name w p ∷ ls) some le ok = ap (λ v. w ∷ v) (inner_spelled d e ls some le ok)
inner_spelled d e (number w v p ∷ ls) some le ok = ap (λ v. w ∷ v) (inner_spelled d e ls some le ok)

pub form_spelled : (e : ℕ) (ls : List Lexeme) → nest_faults Before e ls ≡ [] → map spelled ls ≡ forest_spelled (grow ls).here
form_spelled e [] ok = refl
form_spelled e (opens p ∷ ls) ok =
    let i = inner 1 e ls (omega arith) (omega arith) ok in
    let alone : (grow (opens p ∷ ls)).around ≡ [] = ap (λ s. s.around) (one_form e (opens p ∷ ls) ok).alone in
    open_spelled 1 p (grow ls).here (grow ls).around (map spelled ls) i.around (inner_spelled 1 e ls (omega arith) (omega arith) ok)
    ∙ ap (λ fs. forest_spelled (grow (opens p ∷ ls)).here ++ around_spelled fs) alone
    ∙ append-nil (forest_spelled (grow (opens p ∷ ls)).here)
form_spelled e (closes p ∷ ls) ok = cc
form_spelled e (name w p ∷ ls) ok = cc
form_spelled e (number w v p ∷ ls) ok = cc

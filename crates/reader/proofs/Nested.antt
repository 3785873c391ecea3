-- A text without faults of nesting is one form, with at most 32 parentheses open.
use Rattle.std.proofs.Common.{◌≡◌, ℕ, ◌+◌, ◌-◌, ◌<◌, ◌≤◌, Bool, true, false, leb, List, [], ◌∷◌, ◌++◌, length, sym, refl, ap, ◌∙◌, subst, ⊎_elim, inl, inr, ◌⊎◌, arith}
use Rattle.std.proofs.lemmas.Bool.{cases_lt, leb-false, le-leb, lt-leb, cond-true, cond-false}
use Rattle.scanner.specs.Faults.{when}
use Rattle.scanner.specs.Words.{Lexeme, opens, closes, name, number}
use Rattle.reader.specs.Forms.{Forest, none, form, Pile, grow, first_list, other_lists, size, depth}
use Rattle.reader.specs.Nests.{nest_faults}
use Rattle.reader.specs.declared.fault.FormFault.{FormFault}
use Rattle.reader.specs.declared.fault.FormFault.TheVariants.{TooDeep}
use Rattle.reader.specs.declared.nesting.Nesting.TheVariants.{Before, Inside, After}

-- with d parentheses open, what goes on in each list around is shallow, and nothing goes on in the outermost
abbrev pub Around : ℕ → List Forest → Type 0
Around d [] = ⊥
Around d (f ∷ []) = (d ≡ 1) × (f ≡ none)
Around d (f ∷ g ∷ fs) = (1 < d) × (depth f + (d - 1) ≤ 32) × Around (d - 1) (g ∷ fs)

pub record Inner (d : ℕ) (s : Pile) : Type 0 where
  low : depth s.here + d ≤ 32
  pub around : Around d s.around

-- nothing follows the form
pub over : (e : ℕ) (ls : List Lexeme) → nest_faults After e ls ≡ [] → ls ≡ []
over e [] ok = refl
over e (opens p ∷ ls) ok = cc
over e (closes p ∷ ls) ok = cc
over e (name w p ∷ ls) ok = cc
over e (number w v p ∷ ls) ok = cc

pub passed : (b : Bool) (f : FormFault) (fs : List FormFault) → when b f ++ fs ≡ [] → (b ≡ false) × (fs ≡ [])
passed true f fs ok = cc
passed false f fs ok = (refl, ok)

-- a parenthesis closes an inner list, or the form, which nothing follows
pub closing : (d e p : ℕ) (ls : List Lexeme) → nest_faults (Inside d) e (closes p ∷ ls) ≡ [] → ((1 < d) × (nest_faults (Inside (d - 1)) e ls ≡ [])) ⊎ ((d ≤ 1) × (ls ≡ []))
closing d e p ls ok =
    ⊎_elim
    (λ more. inl (more, sym (ap (λ s. nest_faults s e ls) (cond-false (leb d 1) After (Inside (d - 1)) (lt-leb d 1 more))) ∙ ok))
    (λ last. inr (last, over e ls (sym (ap (λ s. nest_faults s e ls) (cond-true (leb d 1) After (Inside (d - 1)) (le-leb d 1 last))) ∙ ok)))
    (cases_lt 1 d)

opened : (d p : ℕ) (f : Forest) (fs : List Forest) → 0 < d → d < 32 → depth f + (d + 1) ≤ 32 → Around (d + 1) fs → (depth (form p f (first_list fs)) + d ≤ 32) × Around d (other_lists fs)
opened d p f [] some lt low a = absurd a
opened d p f (g ∷ []) some lt low a = absurd (omega (arith, a.0))
opened d p f (g ∷ h ∷ fs) some lt low a = let e : d + 1 - 1 ≡ d = omega arith in (omega (arith, a.1), subst (λ n. Around n (h ∷ fs)) e a.2)

closed : (d : ℕ) (s : Pile) → 1 < d → Inner (d - 1) s → Around d (s.here ∷ s.around)
closed d s more i = close s.here s.around i.low i.around
  where
    close : (f : Forest) (fs : List Forest) → depth f + (d - 1) ≤ 32 → Around (d - 1) fs → Around d (f ∷ fs)
    close f [] low a = absurd a
    close f (g ∷ fs) low a = (more, low, a)

pub inner : (d e : ℕ) (ls : List Lexeme) → 0 < d → d ≤ 32 → nest_faults (Inside d) e ls ≡ [] → Inner d (grow ls)
inner d e [] some le ok = cc
inner d e (opens p ∷ ls) some le ok =
    let a = passed (leb 32 d) (TooDeep p) (nest_faults (Inside (d + 1)) e ls) ok in
    let lt : d < 32 = leb-false 32 d a.0 in
    let i = inner (d + 1) e ls (omega arith) (omega arith) a.1 in
    let o = opened d p (grow ls).here (grow ls).around some lt i.low i.around in
    record { low = o.0; around = o.1 }
inner d e (closes p ∷ ls) some le ok =
    ⊎_elim
    (λ more. record { low = omega arith; around = closed d (grow ls) more.0 (inner (d - 1) e ls (omega arith) (omega arith) more.1) })
    (λ last. record { low = omega arith; around = subst (λ l. Around d ((grow l).here ∷ (grow l).around)) (sym last.1) (omega arith, refl) })
    (closing d e p ls ok)
inner d e (name w p ∷ ls) some le ok = let i = inner d e ls some le ok in record { low = i.low; around = i.around }
inner d e (number w v p ∷ ls) some le ok = let i = inner d e ls some le ok in record { low = i.low; around = i.around }

-- the tokens are an opening parenthesis, and what makes the elements of its form
pub record OneForm (ls : List Lexeme) : Type 0 where
  pub place : ℕ
  pub rest : List Lexeme
  pub begins : ls ≡ opens place ∷ rest
  pub alone : grow ls ≡ record { here = form place (grow rest).here none; around = [] }
  pub shallow : depth (grow rest).here ≤ 31

alone_in : (p : ℕ) (f : Forest) (fs : List Forest) → Around 1 fs → ◌≡◌ {A = Pile} (record { here = form p f (first_list fs); around = other_lists fs }) (record { here = form p f none; around = [] })
alone_in p f [] a = absurd a
alone_in p f (g ∷ []) a = ap (λ x. record { here = form p f x; around = [] }) a.1
alone_in p f (g ∷ h ∷ fs) a = absurd (omega (arith, a.0))

pub one_form : (e : ℕ) (ls : List Lexeme) → nest_faults Before e ls ≡ [] → OneForm ls
one_form e [] ok = cc
one_form e (opens p ∷ ls) ok =
    let i = inner 1 e ls (omega arith) (omega arith) ok in
    record { place = p; rest = ls; begins = refl; alone = alone_in p (grow ls).here (grow ls).around i.around; shallow = omega (arith, i.low) }
one_form e (closes p ∷ ls) ok = cc
one_form e (name w p ∷ ls) ok = cc
one_form e (number w v p ∷ ls) ok = cc

sizes : List Forest → ℕ
sizes [] = 0
sizes (f ∷ fs) = size f + sizes fs

sizes_split : (fs : List Forest) → sizes fs ≡ size (first_list fs) + sizes (other_lists fs)
unfolding sizes
sizes_split [] = refl
sizes_split (f ∷ fs) = refl

sizes_few : (ls : List Lexeme) → size (grow ls).here + sizes (grow ls).around ≤ length ls
unfolding sizes
sizes_few [] = omega arith
sizes_few (opens p ∷ ls) = omega (arith, sizes_few ls, sizes_split (grow ls).around)
sizes_few (closes p ∷ ls) = omega (arith, sizes_few ls)
sizes_few (name w p ∷ ls) = omega (arith, sizes_few ls)
sizes_few (number w v p ∷ ls) = omega (arith, sizes_few ls)

-- there are at most as many elements as tokens
pub size_few : (ls : List Lexeme) → size (grow ls).here ≤ length ls
size_few ls = omega (arith, sizes_few ls)

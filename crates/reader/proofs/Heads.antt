-- Which word the head of a definition is.
use Rattle.std.proofs.Common.{◌≡◌, ℕ, zero, suc, ◌+◌, ◌<◌, true, cond, eqb, List, [], ◌∷◌, length, get_or, Some, None, codes, Option, sym, ap, ◌∙◌, arith}
use Rattle.std.proofs.lemmas.List.{ext_get_or}
use Rattle.std.proofs.lemmas.Bool.{eqb-true, and_parts, cond_both}
use Rattle.reader.specs.Definitions.{Kind, functions, globals, enumerations, others, kind}
use Rattle.reader.specs.Keywords.{spells_from, spells, keyword}
use Rattle.reader.specs.declared.keyword.Keyword.{Keyword}
use Rattle.reader.specs.declared.keyword.Keyword.TheVariants.{Def, Let, Enum, If, While, Do, Set, Vec, Setv, New, Sys, Add, Sub, Eq, Lt, Gt}

-- a word that is spelled so is that word
same_bytes : (w : List ℕ) (i : ℕ) (s : List ℕ) → spells_from w i s ≡ true → (k : ℕ) → k < length s → get_or w (i + k) 0 ≡ get_or s k 0
same_bytes w i [] h k lt = absurd (omega arith)
same_bytes w i (c ∷ cs) h zero lt =
    let here : i + 0 ≡ i = omega arith in
    ap (λ n. get_or w n 0) here ∙ eqb-true (get_or w i 0) c (and_parts _ _ h).0
same_bytes w i (c ∷ cs) h (suc k) lt =
    let next : i + suc k ≡ i + 1 + k = omega arith in
    ap (λ n. get_or w n 0) next ∙ same_bytes w (i + 1) cs (and_parts (eqb (get_or w i 0) c) _ h).1 k (omega arith)

same_word : (w s : List ℕ) → spells w s ≡ true → w ≡ s
same_word w s h =
    let parts = and_parts (eqb (length w) (length s)) (spells_from w 0 s) h in
    let same : length w ≡ length s = eqb-true (length w) (length s) parts.0 in
    ext_get_or 0 w s same (λ k lt. let here : 0 + k ≡ k = omega arith in sym (ap (λ n. get_or w n 0) here) ∙ same_bytes w 0 s parts.1 k (omega arith))

-- w is the word at the head of what is of this kind
abbrev pub Head : Kind → List ℕ → Type 0
Head functions w = w ≡ codes "def"
Head globals w = w ≡ codes "let"
Head enumerations w = w ≡ codes "enum"
Head others w = Unit {0}

module _ (w : List ℕ) where
  either : (s : List ℕ) (k : Keyword) (o : Option Keyword) → (w ≡ s → Head (kind (Some k)) w) → Head (kind o) w → Head (kind (cond (spells w s) (Some k) o)) w
  either s k o this other = cond_both (spells w s) (Some k) o (λ o. Head (kind o) w) (λ e. this (same_word w s e)) (λ e. other)

  pub head_is : Head (kind (keyword w)) w
  unfolding keyword
  head_is =
      either (codes "def") Def _ (λ e. e)
      (either (codes "let") Let _ (λ e. e)
      (either (codes "enum") Enum _ (λ e. e)
      (either (codes "if") If _ (λ e. tt)
      (either (codes "while") While _ (λ e. tt)
      (either (codes "do") Do _ (λ e. tt)
      (either (codes "set") Set _ (λ e. tt)
      (either (codes "vec") Vec _ (λ e. tt)
      (either (codes "setv") Setv _ (λ e. tt)
      (either (codes "new") New _ (λ e. tt)
      (either (codes "sys") Sys _ (λ e. tt)
      (either (codes "+") Add _ (λ e. tt)
      (either (codes "-") Sub _ (λ e. tt)
      (either (codes "=") Eq _ (λ e. tt)
      (either (codes "<") Lt _ (λ e. tt)
      (either (codes ">") Gt None (λ e. tt) tt)))))))))))))))

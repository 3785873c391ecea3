-- One byte further in a text.
use Rattle.std.proofs.Common.{◌≡◌, ℕ, ◌+◌, ◌-◌, ◌<◌, ◌≤◌, false, cond, List, ◌∷◌, map, length, get_or, take, drop, sym, refl, ap, ◌∙◌, arith}
use Rattle.std.proofs.lemmas.List.{at_drop_more, drop-drop}
use Rattle.std.proofs.lemmas.List.Sums.{prefix_len-drop_no}
use Rattle.std.specs.List.{prefix_len}
use Rattle.scanner.specs.Bytes.{class}
use Rattle.scanner.specs.Pieces.{Mode, between, in_word, in_comment, letters, step, pieces}
use Rattle.scanner.specs.Words.{Item, item, word_item}
use Rattle.scanner.specs.declared.class.Class.{Class}
use Rattle.scanner.specs.declared.class.Class.TheVariants.{Letter}
use Rattle.scanner.specs.declared.scanner.State.{State}
use Rattle.scanner.specs.declared.scanner.State.TheVariants.{Between, InWord, InComment}
use Rattle.scanner.proofs.Heads.{letter, is_letter, letters_taken, behind_word}

module _ (text : List ℕ) (i : ℕ) (h : i < length text) (k : Class) (e : class (get_or text i 0) ≡ k) where
  pub look : (m : Mode) → pieces m i (drop i text) ≡ step m k (get_or text i 0) i (letters (drop i text)) (λ n. pieces n (i + 1) (drop (i + 1) text))
  look m =
      at_drop_more (pieces m i) text i 0 h
      ∙ ap (λ w. step m (class (get_or text i 0)) (get_or text i 0) i w (λ n. pieces n (i + 1) (drop (i + 1) text))) (sym (at_drop_more letters text i 0 h))
      ∙ ap (λ c. step m c (get_or text i 0) i (letters (drop i text)) (λ n. pieces n (i + 1) (drop (i + 1) text))) e

-- what a scanner that stands before the place i has still to give
abbrev pub owed : State → List ℕ → ℕ → List Item
owed Between text i = map item (pieces between i (drop i text))
owed (InWord from) text i = map item (pieces between from (drop from text))
owed InComment text i = map item (pieces in_comment i (drop i text))

-- from `from` up to the place i a word goes on
abbrev pub Going : State → List ℕ → ℕ → Type 0
Going (InWord from) text i = (from < i) × (class (get_or text from 0) ≡ Letter) × (from + prefix_len is_letter (drop from text) ≡ i + prefix_len is_letter (drop i text))
Going _ text i = Unit {0}

pub goes_on : (text : List ℕ) (i : ℕ) → i < length text → class (get_or text i 0) ≡ Letter → i + prefix_len is_letter (drop i text) ≡ i + 1 + prefix_len is_letter (drop (i + 1) text)
goes_on text i h e =
    let one : prefix_len is_letter (drop i text) ≡ 1 + prefix_len is_letter (drop (i + 1) text) =
    at_drop_more (prefix_len is_letter) text i 0 h ∙ ap (λ k. cond (letter k) (1 + prefix_len is_letter (drop (i + 1) text)) 0) e in
    omega arith

no_letter : (k : Class) → (k ≡ Letter → ⊥) → letter k ≡ false
no_letter Letter ne = absurd (ne refl)
no_letter _ ne = refl

-- it ends before a byte that is no letter, or with the text
pub over : (text : List ℕ) (i : ℕ) → i < length text → (class (get_or text i 0) ≡ Letter → ⊥) → prefix_len is_letter (drop i text) ≡ 0
over text i h ne = prefix_len-drop_no is_letter text i 0 h (no_letter (class (get_or text i 0)) ne)

-- a word that has ended, and what stands behind it
pub word_given : (text : List ℕ) (from i : ℕ) (l : Item) → i ≤ length text → Going (InWord from) text i → prefix_len is_letter (drop i text) ≡ 0 → l ≡ word_item (take (i - from) (drop from text)) from → map item (pieces between from (drop from text)) ≡ l ∷ map item (pieces between i (drop i text))
word_given text from i l le going none is =
    let h : from < length text = omega (arith, going.0) in
    let n : prefix_len is_letter (drop from text) ≡ i - from = omega (arith, going.0, going.2) in
    let end : from + (i - from) ≡ i = omega (arith, going.0) in
    let whole : word_item (letters (drop from text)) from ≡ l = ap (λ w. word_item w from) (sym (letters_taken (drop from text)) ∙ ap (λ n. take n (drop from text)) n) ∙ sym is in
    let behind : pieces in_word (from + 1) (drop (from + 1) text) ≡ pieces between i (drop i text) =
    sym (look text from h Letter going.1 in_word) ∙ behind_word from (drop from text) ∙ ap (λ n. pieces between (from + n) (drop n (drop from text))) n
    ∙ ap (pieces between (from + (i - from))) (drop-drop (i - from) from text) ∙ ap (λ e. pieces between e (drop e text)) end in
    ap (map item) (look text from h Letter going.1 between) ∙ (λ j. whole j ∷ map item (behind j))

-- Decoding a word and encoding an instruction undo each other.
use Rattle.std.proofs.Common.{◌≡◌, ℕ, ◌<◌, Bool, true, ◌&&◌, ltb, ℤ, pos, negsuc, IfSome, Some, None, Option, unwrap_or, is_some, not, sym, refl, ap, ◌∙◌, arith}
use Rattle.std.proofs.lemmas.Grind.{common_steps}
use Rattle.std.proofs.lemmas.Bool.{lt-ltb}
use Rattle.std.specs.Bool.{then_some}
use Rattle.scode.specs.declared.instruction.Instruction.{Instruction}
use Rattle.scode.specs.declared.instruction.Instruction.TheVariants.{Bad}
use Rattle.scode.specs.declared.opcode.Opcode.{Opcode}
use Rattle.scode.specs.declared.words.Fields.{Fields}
use Rattle.scode.specs.Opcode.{number_of, opcode_of}
use Rattle.scode.specs.Words.{both, fits24, fields, joined}
use Rattle.scode.specs.Instructions.{named, known_as, decoded, fields_of, encoded}

-- what a word says, if anything, has the word's opcode and argument
pub named_says : (opcode : Opcode) (a : ℤ) → fits24 a ≡ true → IfSome (named opcode a) (λ i. fields_of i ≡ Some (both (number_of opcode) a))
named_says opcode (pos n) h = grind (arith, common_steps)
named_says opcode (negsuc n) h = grind (arith, common_steps)

number_again : (n : ℕ) → IfSome (opcode_of n) (λ opcode. number_of opcode ≡ n)
number_again n = grind (arith, common_steps)

known_says : (f : Fields) → fits24 f.argument ≡ true → IfSome (known_as f) (λ i. fields_of i ≡ Some f)
known_says f h = grind (arith, common_steps, number_again f.opcode, named_says)

fields_fit : (w : ℕ) → w < 4294967296 → fits24 (fields w).argument ≡ true
fields_fit w h = grind (arith, common_steps)

pub word_again : (w : ℕ) → w < 4294967296 → joined (fields w) ≡ Some w
word_again w h = grind (arith, common_steps)

-- over what is known, so that nothing opens it
known_or_bad : (w : ℕ) (o : Option Instruction) → w < 4294967296 → known_as (fields w) ≡ o → IfSome o (λ i. fields_of i ≡ Some (fields w)) → encoded (unwrap_or o (Bad w)) ≡ Some w
known_or_bad w None h k s = let t = lt-ltb w 4294967296 h in rw (t, k) (word_again w h)
known_or_bad w (Some i) h k s = rw s (word_again w h)

pub encoded_decoded : (w : ℕ) → w < 4294967296 → encoded (decoded w) ≡ Some w
encoded_decoded w h = known_or_bad w (known_as (fields w)) h refl (known_says (fields w) (fields_fit w h))

-- a bad word's fields are those of no instruction and of no other word
bad_back : (v : ℕ) (o : Option Instruction) (w : ℕ) → known_as (fields v) ≡ o → ltb v 4294967296 && not (is_some o) ≡ true → joined (fields v) ≡ Some w → unwrap_or (known_as (fields v)) (Bad w) ≡ Bad v
bad_back v None w k t j = rw k (let again : joined (fields v) ≡ Some v = grind (arith, common_steps) in cc)
bad_back v (Some i) w k t j = absurd (grind (arith, common_steps))

passed : (b : Bool) (x y : Fields) → then_some b x ≡ Some y → (b ≡ true) × (y ≡ x)
passed b x y e = grind (arith, common_steps)

pub fields_back : (i : Instruction) (f : Fields) (w : ℕ) → fields_of i ≡ Some f → joined f ≡ Some w → unwrap_or (known_as f) (Bad w) ≡ i
fields_back (Bad v) f w s j = let p = passed _ _ _ s in rw p.1 (bad_back v (known_as (fields v)) w refl p.0 (rw p.1 at j))
fields_back i f w s j = grind (arith, common_steps)

pub joined_back : (i : Instruction) (f : Fields) (r : Option ℕ) → fields_of i ≡ Some f → r ≡ joined f → IfSome r (λ w. fields w ≡ f) → IfSome r (λ w. decoded w ≡ i)
joined_back i f None s j e = tt
joined_back i f (Some w) s j e = ap (λ (g : Fields). unwrap_or (known_as g) (Bad w)) e ∙ fields_back i f w s (sym j)

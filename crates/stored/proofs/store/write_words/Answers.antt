-- One more word behind the others, until all are written.
use Rattle.std.proofs.Common.{◌≡◌, ℕ, ◌+◌, ◌*◌, ◌<◌, List, [], ◌∷◌, ◌++◌, length, get_or, take, sym, refl, ap, ap₂, ◌∙◌, arith}
use Rattle.std.proofs.ByRecursion.{All-from_get_or}
use Rattle.std.proofs.lemmas.Grind.{common_steps}
use Rattle.std.proofs.lemmas.List.{take_more}
use Rattle.std.proofs.lemmas.Slice.{take-put_mid}
use Rattle.packing.specs.Packing.{word_bytes, words_bytes, words_in}
use Rattle.packing.proofs.Words.{words_again}
use Rattle.stored.proofs.store.write_words.Goals as goal

words_bytes_push : (ws : List ℕ) (w : ℕ) → words_bytes (ws ++ w ∷ []) ≡ words_bytes ws ++ word_bytes w
words_bytes_push [] w = refl
words_bytes_push (v ∷ ws) w = ap (λ (r : List ℕ). word_bytes v ++ r) (words_bytes_push ws w)

pub loop-i-preserved : goal.loop-i-preserved
loop-i-preserved c =
    let ws = c.args.words.now in
    let i = c.loop-i.i in
    let bytes : c.copy_from_slice.new.self ≡ word_bytes (get_or ws i 0) = c.copy_from_slice.ensures.after ∙ c.to_le_bytes.ensures in
    take-put_mid (4 * i) _ c.loop-i.out _ (4 * (i + 1)) (omega (arith, ap length bytes)) (omega arith)
    ∙ ap₂ ◌++◌ c.loop-i.invariant bytes
    ∙ sym (words_bytes_push (take i ws) (get_or ws i 0))
    ∙ sym (ap words_bytes (take_more ws i 0 c.loop-i-test.true))

pub returns : goal.returns
returns c =
    let ws = c.args.words.now in
    let bytes : c.loop-i.out ≡ words_bytes ws = grind (arith, common_steps) in
    record {
      bytes = bytes;
      again = ap words_in bytes ∙ words_again ws (All-from_get_or (λ w. w < 4294967296) ws 0 (λ i _. (c.type_inv.words i).fits));
    }

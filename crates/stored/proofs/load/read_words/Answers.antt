-- One more word is that of its chunk, until all are read.
use Rattle.std.proofs.Common.{◌≡◌, ℕ, List, [], get_or, ap, ◌∙◌, arith, w32}
use Rattle.std.specs.Int.{from_le_bytes}
use Rattle.std.proofs.lemmas.Grind.{common_steps}
use Rattle.packing.specs.Packing.{words_in}
use Rattle.packing.proofs.Chunks.{chunk_word}
use Rattle.packing.proofs.Words.{length_words}
use Rattle.stored.proofs.load.read_words.Goals as goal

pub loop-i-preserved : goal.loop-i-preserved
loop-i-preserved c =
    let bs = c.args.bytes.now in
    let i = c.loop-i.i in
    let w : c.from_le_bytes.result ≡ get_or (words_in bs) i 0 =
    c.from_le_bytes.ensures ∙ ap (λ (cs : List (List ℕ)). from_le_bytes w32 (get_or cs i [])) c.as_chunks.ensures.front ∙ chunk_word bs i in
    grind (arith, common_steps, w, length_words bs)

pub returns : goal.returns
returns c = grind (arith, common_steps, length_words c.args.bytes.now)

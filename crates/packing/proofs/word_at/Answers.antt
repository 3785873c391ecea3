-- The number is that of its chunk.
use Rattle.std.proofs.Common.{arith}
use Rattle.std.proofs.lemmas.Option.{gets}
use Rattle.packing.proofs.Chunks.{word_chunk}
use Rattle.packing.proofs.word_at.Goals as goal

pub returns : goal.returns
returns c = grind (arith, gets, word_chunk c.args.bytes.now c.args.i)

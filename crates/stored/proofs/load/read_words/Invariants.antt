-- The words up to here are those in the bytes.
use Rattle.std.proofs.Common.{◌≡◌, take}
use Rattle.packing.specs.Packing.{words_in}
use Rattle.stored.proofs.load.read_words.Given as goal

abbrev pub invariant-loop-i : goal.invariant-loop-i
invariant-loop-i l = take l.i l.words ≡ take l.i (words_in l.bytes)

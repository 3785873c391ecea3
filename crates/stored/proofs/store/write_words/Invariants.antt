-- The bytes up to here are those of the words up to here.
use Rattle.std.proofs.Common.{◌≡◌, ◌*◌, take}
use Rattle.packing.specs.Packing.{words_bytes}
use Rattle.stored.proofs.store.write_words.Given as goal

abbrev pub invariant-loop-i : goal.invariant-loop-i
invariant-loop-i l = take (4 * l.i) l.out ≡ words_bytes (take l.i l.words)

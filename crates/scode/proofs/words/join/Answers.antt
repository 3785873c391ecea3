-- The word by bits is the word by arithmetic, and the fields come back from it.
use Rattle.std.proofs.Common.{◌≡◌, arith, rules, w32}
use Rattle.std.proofs.lemmas.Int.{to_z-of_z}
use Rattle.scode.specs.Words.{fits24}
use Rattle.scode.proofs.Laws.{joined_again, word_by_bits}
use Rattle.scode.proofs.words.join.Goals as goal

pub returns-clause-answer : goal.returns-clause-answer
returns-clause-answer c =
    let f = c.args.parts in
    let fits : c.contains.result ≡ fits24 f.argument = search rules in
    let word = word_by_bits f.opcode f.argument (omega arith) in
    cc (to_z-of_z w32 f.argument (search rules))

pub returns-clause-again : goal.returns-clause-again
returns-clause-again c = rw (returns-clause-answer c) (joined_again c.args.parts (omega arith))

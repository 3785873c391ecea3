use Rattle.std.proofs.Common.{◌≡◌, ◌∷◌, sym, ap, ◌∙◌, rules}
use Rattle.std.proofs.lemmas.Result.{err_from_is_err_and}
use Rattle.scanner.specs.Scans.{ahead, lexemes, lexemes_of}
use Rattle.scanner.specs.Words.{opens}
use Rattle.reader.proofs.Whole.{scan_refuses, nest_refuses, readable, past_nest}
use Rattle.reader.proofs.read.read.Goals as goal

pub returns-in_err-scan-clause-answer : goal.returns-in_err-scan-clause-answer
returns-in_err-scan-clause-answer c =
    let p = err_from_is_err_and c.from_residual.result c.from_residual.ensures.1 in
    rw (p.1, p.2) (sym (scan_refuses c.args.text.now _ c.in_err-scan.ensures.answer))

pub returns-in_err-nest-clause-answer : goal.returns-in_err-nest-clause-answer
returns-in_err-nest-clause-answer c =
    let p = err_from_is_err_and c.from_residual-in_err-nest.result c.from_residual-in_err-nest.ensures.1 in
    rw (p.1, p.2) (sym (nest_refuses c.args.text.now c.in_ok-scan.ensures.answer _ c.in_err-nest.ensures))

pub invariant_of-definition : goal.invariant_of-definition
invariant_of-definition c =
    let begins : lexemes_of c.args.text.now ≡ opens c.in-Some-Open.place ∷ ahead c.token.new.self = sym (ap lexemes c.new-rest.ensures) ∙ search rules in
    record { readable = readable c.args.text.now c.in_ok-scan.ensures.answer c.in_ok-nest.ensures _ _ begins }

pub returns-clause-answer : goal.returns-clause-answer
returns-clause-answer c =
    let begins : lexemes_of c.args.text.now ≡ opens c.in-Some-Open.place ∷ ahead c.token.new.self = sym (ap lexemes c.new-rest.ensures) ∙ search rules in
    c.definition.ensures ∙ sym (past_nest c.args.text.now c.in_ok-scan.ensures.answer c.in_ok-nest.ensures _ _ begins)

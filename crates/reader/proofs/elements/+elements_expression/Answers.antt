use Rattle.std.proofs.Common.{◌≡◌, ◌∷◌, ap, arith}
use Rattle.scanner.specs.Scans.{ahead, lexeme}
use Rattle.reader.specs.Forms.{count, grow, survey_first}
use Rattle.reader.proofs.Lists.{both_first, few}
use Rattle.reader.proofs.elements.+elements_expression.Goals as goal

pub elements-and-found-requires : goal.elements-and-found-requires
elements-and-found-requires t c =
    let start = (grow (ahead c.args.scanner.now)).here in
    let next = (grow (lexeme c.in-Some.token ∷ ahead c.token.new.self)).here in
    let found : c.expression.result ≡ survey_first next = c.expression.ensures.found in
    let one = ap (λ s. s.count) found in
    let rest = ap (λ s. s.count) (both_first next) in
    let begins : ahead c.loop-token.scanner ≡ lexeme c.in-Some.token ∷ ahead c.token.new.self = c.in-Some.ensures in
    let ahead_is = ap (λ ls. count (grow ls).here) begins in
    let sum = ap (λ s. s.count) c.loop-token.invariant.sum in
    omega (arith, few start, c.requires.small)

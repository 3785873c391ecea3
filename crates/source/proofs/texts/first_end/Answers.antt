use Rattle.std.proofs.Common.{rules, refl, arith}
use Rattle.scanner.specs.Scans.{ahead}
use Rattle.source.proofs.Below.{tokens_fit}
use Rattle.source.proofs.texts.first_end.Goals as goal

pub loop-token-init : goal.loop-token-init
loop-token-init c =
    let fit = tokens_fit c.args.text.now (ahead c.into_iter-token-iterator.result.0) (search rules) in
    (omega (arith, fit.few), tt, fit.below, refl)

use Rattle.std.proofs.Common.{rules, refl}
use Rattle.scanner.proofs.Found.{found}
use Rattle.scanner.proofs.scanner.Scanner.token.Goals as goal

pub returns : goal.returns
returns c =
    let run = c.find_map.ensures.runs in
    found _ (λ x r f f' h. search rules) c.args.self.now c.find_map.new.self _ c.find_map.result c.find_map.ensures.ran run.0 run.1 (λ none. let h = rw none at run.2 in (h.0, h.1 (λ x r f called. refl)))

use Rattle.std.proofs.Common.{ℕ, replicate, ap, ◌∙◌, arith}
use Rattle.std.proofs.lemmas.List.{take-replicate}
use Rattle.rehearsal_host.proofs.rehearsal.RehearsalHost.new.Goals as goal

pub returns-clause-spare : goal.returns-clause-spare
returns-clause-spare c = rw (c.empty.ensures.items, c.empty.ensures.len) (take-replicate c.min.result 256 0 (omega arith) ∙ ap (λ (n : ℕ). replicate n 0) c.min.ensures)

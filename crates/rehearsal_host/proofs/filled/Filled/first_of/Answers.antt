use Rattle.std.proofs.Common.{ℕ, take, ap, ◌∙◌, rules}
use Rattle.std.proofs.lemmas.List.{length-take, take_at, take_min}
use Rattle.rehearsal_host.proofs.filled.Filled.first_of.Goals as goal

pub returns : goal.returns
returns g c =
    take_at _ _ c.min-len.result (search (rules, length-take))
    ∙ c.copy_from_slice.ensures.after
    ∙ ap (λ (n : ℕ). take n c.args.items.now) c.min-len.ensures
    ∙ take_min g.row.N c.args.items.now

-- What loads is stored as the same bytes.
use Rattle.std.proofs.Common.{◌≡◌, List, ℕ, ◌++◌, drop, Ok, sym, ap, ◌∙◌}
use Rattle.std.proofs.lemmas.List.{take_rest}
use Rattle.packing.specs.Packing.{words_in}
use Rattle.stored.specs.Stored.{header_in}
use Rattle.stored.proofs.Rules.{front_again, good}
use Rattle.stored.proofs.load.load.Goals as goal

pub returns-clause-again : goal.returns-clause-again
returns-clause-again c =
    let bs = c.args.bytes.now in
    let h = c.in_ok-header.header in
    let read : header_in bs ≡ Ok h = sym c.header.ensures ∙ c.in_ok-header.was in
    front_again bs _ c.args.words.now h c.type_inv.bytes (good bs h read)
    (ap (λ (r : List ℕ). r ++ drop h.words c.args.words.now) (c.read_words.ensures ∙ ap words_in (take_rest bs 11)))

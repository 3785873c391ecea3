-- Header and words make the stored rule, and it loads as the same rule.
use Rattle.std.proofs.Common.{rules, ◌≡◌, ◌+◌, ◌*◌, length, drop, Ok, sym, ap, ◌∙◌, arith}
use Rattle.std.proofs.lemmas.List.{take_at}
use Rattle.packing.specs.Packing.{words_bytes, words_in}
use Rattle.packing.proofs.Words.{length_bytes}
use Rattle.stored.specs.Stored.{heading, loaded, Rule, stored}
use Rattle.stored.proofs.Rules.{both_parts, Headed, headed, loaded_again}
use Rattle.stored.proofs.store.store.Goals as goal

pub returns : goal.returns
returns c =
    let r = c.args.rule.now in
    let ws = c.rule.inside.words.now in
    let h = c.in_ok-header.header in
    let same : ws ≡ r.words = ap (λ (x : Rule). x.words) c.rule.view_is in
    let made : heading r ≡ Ok h = sym c.header.ensures ∙ c.in_ok-header.was in
    let parts : Headed r h = headed r h made in
    let n = 11 + 4 * length r.words in
    let after = both_parts r h c.copy_from_slice.new.self c.write_words.new.out c.args.out.now made c.copy_from_slice.ensures.after (c.write_words.ensures.bytes ∙ ap words_bytes same) in
    record {
      answer = search rules;
      after = rw same after;
      again =
          rw (same, after)
          (ap loaded (take_at (stored r) (drop n c.args.out.now) n (omega (arith, length_bytes r.words)))
          ∙ loaded_again r parts.few parts.globals_fit parts.entry_fits (ap words_in (ap words_bytes (sym same) ∙ sym c.write_words.ensures.bytes) ∙ c.write_words.ensures.again ∙ same));
    }

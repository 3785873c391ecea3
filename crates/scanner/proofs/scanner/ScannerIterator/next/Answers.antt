use Rattle.std.proofs.Common.{rules, ◌≡◌, ◌-◌, ◌<◌, ◌∷◌, map, length, get_or, take, drop, sym, ap, ◌∙◌, arith}
use Rattle.std.proofs.lemmas.Grind.{common_steps}
use Rattle.std.proofs.lemmas.List.{at_drop_all}
use Rattle.std.proofs.lemmas.List.Sums.{prefix_len-drop_all}
use Rattle.scanner.specs.Bytes.{class}
use Rattle.scanner.specs.Pieces.{between, pieces}
use Rattle.scanner.specs.Scans.{left, mode, seen}
use Rattle.scanner.specs.Words.{item, word_item}
use Rattle.scanner.specs.declared.class.Class.TheVariants.{Letter}
use Rattle.scanner.specs.declared.scanner.State.TheVariants.{InWord}
use Rattle.scanner.proofs.Heads.{is_letter}
use Rattle.scanner.proofs.Steps.{Going, goes_on, over, word_given}
use Rattle.scanner.proofs.scanner.ScannerIterator.next.Goals as goal
use Rattle.scanner.proofs.scanner.ScannerIterator.next.Goals.{in-InWord-Letter, in-InComment-LineFeed, in-InComment-default, in-Between-Blank, in-Between-Semicolon, in-Between-Letter}

pub loop-byte-preserved : goal.loop-byte-preserved
loop-byte-preserved c =
    let me = c.loop-byte.self in
    let lt : me.at < length me.text.now = grind (arith, common_steps) in
    let byte : get_or me.text.now me.at 0 ≡ get_or c.in_ok-byte-items.byte-items.now c.loop-byte.byte-index 0 = grind (arith, common_steps) in
    elim c.match-state.branch [
      | in-InWord-Letter w ↦
          let going : Going (InWord w.in-InWord-Letter.field-0-0) me.text.now me.at = rw w.in-InWord-Letter.is-0 at c.loop-byte.invariant.going in
          let more = goes_on me.text.now me.at lt (ap class byte ∙ sym w.in-InWord-Letter.ensures) in
          search rules
      | in-InComment-LineFeed w ↦ grind (arith, common_steps)
      | in-InComment-default w ↦ grind (arith, common_steps)
      | in-Between-Blank w ↦ grind (arith, common_steps)
      | in-Between-Semicolon w ↦ grind (arith, common_steps)
      | in-Between-Letter w ↦
          let is = ap class byte ∙ sym w.in-Between-Letter.ensures in
          let more = goes_on me.text.now me.at lt is in
          search rules
    ]

-- a word ended before this byte
word : (c : goal.After-token_of) → left c.args.self.now ≡ seen c.token_of.result ∷ map item (pieces between c.loop-byte.self.at (drop c.loop-byte.self.at c.loop-byte.self.text.now))
word c =
    let me = c.loop-byte.self in
    let place = c.in-InWord-default.place in
    let lt : me.at < length me.text.now = grind (arith, common_steps) in
    let byte : get_or me.text.now me.at 0 ≡ get_or c.in_ok-byte-items.byte-items.now c.loop-byte.byte-index 0 = grind (arith, common_steps) in
    let other : class (get_or me.text.now me.at 0) ≡ Letter → ⊥ = search rules in
    let going : Going (InWord place) me.text.now me.at = rw c.in-InWord-default.is-0 at c.loop-byte.invariant.going in
    let is : seen c.token_of.result ≡ word_item (take (me.at - place) (drop place me.text.now)) place = search rules in
    let given = word_given me.text.now place me.at (seen c.token_of.result) (omega arith) going (over me.text.now me.at lt other) is in
    search rules

pub returns-in-InWord-default-clause-steps : goal.returns-in-InWord-default-clause-steps
returns-in-InWord-default-clause-steps c = let first = word c in search rules

pub returns-in-InWord-default-clause-goes : goal.returns-in-InWord-default-clause-goes
returns-in-InWord-default-clause-goes c = let shorter = ap length (word c) in search rules

-- a word ended with the text
last_word : (c : goal.After-token_of-in-InWord) → left c.args.self.now ≡ seen c.token_of-in-InWord.result ∷ left c.loop-byte.self
last_word c =
    let me = c.loop-byte.self in
    let place = c.in-InWord.place in
    let full : length me.text.now ≡ me.at = grind (arith, common_steps) in
    let going : Going (InWord place) me.text.now me.at = rw c.in-InWord.is at c.loop-byte.invariant.going in
    let is : seen c.token_of-in-InWord.result ≡ word_item (take (me.at - place) (drop place me.text.now)) place = rw full at c.token_of-in-InWord.ensures in
    let given = word_given me.text.now place me.at (seen c.token_of-in-InWord.result) (omega arith) going (prefix_len-drop_all is_letter me.text.now me.at (omega arith)) is in
    let none : left me ≡ map item (pieces between me.at (drop me.at me.text.now)) =
    at_drop_all (λ r. map item (pieces (mode me.in_comment) me.at r)) me.text.now me.at (omega arith) ∙ sym (at_drop_all (λ r. map item (pieces between me.at r)) me.text.now me.at (omega arith)) in
    search rules

pub returns-in-InWord-clause-steps : goal.returns-in-InWord-clause-steps
returns-in-InWord-clause-steps c = last_word c

pub returns-in-InWord-clause-goes : goal.returns-in-InWord-clause-goes
returns-in-InWord-clause-goes c = let shorter = ap length (last_word c) in search rules

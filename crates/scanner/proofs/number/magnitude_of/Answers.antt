use Rattle.std.proofs.Common.{rules, ◌≡◌, ◌+◌, ◌*◌, false, Some, sym, ap, ◌∙◌, arith}
use Rattle.std.proofs.lemmas.Bool.{eqb-false}
use Rattle.std.proofs.lemmas.Int.{ints}
use Rattle.scanner.specs.Words.{digit, plus}
use Rattle.scanner.proofs.Numbers.{decimal, no_decimal, read_more, read_bad, read_all, few}
use Rattle.scanner.proofs.number.magnitude_of.Goals as goal

pub overflow_mul-n : goal.overflow_mul-n
overflow_mul-n c =
    let small = few _ _ _ c.requires c.loop-byte-test.true c.loop-byte.invariant.2 in
    let is = c.loop-byte.invariant.1 in
    omega (arith, ints)

pub overflow_add-n : goal.overflow_add-n
overflow_add-n c =
    let small = few _ _ _ c.requires c.loop-byte-test.true c.loop-byte.invariant.2 in
    let is = c.loop-byte.invariant.1 in
    let d = c.in_ok-to_digit.ensures.value in
    omega (arith, ints, d)

pub loop-byte-init : goal.loop-byte-init
loop-byte-init c = (0, search rules, search rules)

pub loop-byte-preserved : goal.loop-byte-preserved
loop-byte-preserved c =
    let small = few _ _ _ c.requires c.loop-byte-test.true c.loop-byte.invariant.2 in
    let is = c.loop-byte.invariant.1 in
    let d = c.in_ok-to_digit.ensures.value in
    let is_digit = decimal c.from.result c.in_ok-to_digit.field-0 d in
    (c.loop-byte.invariant.0 * 10 + c.in_ok-to_digit.field-0, omega (arith, ints, d), read_more _ _ _ c.loop-byte-test.true c.loop-byte.invariant.2 _ (omega arith, omega arith))

pub returns-in_err-to_digit : goal.returns-in_err-to_digit
returns-in_err-to_digit c =
    let other : digit c.from.result ≡ false = no_decimal _ c.in_err-to_digit.ensures.cases in
    c.from_residual.ensures ∙ ap plus (sym (read_bad _ _ _ c.loop-byte-test.true c.loop-byte.invariant.2 (ap digit (sym c.from.ensures) ∙ other)))

pub returns : goal.returns
returns c =
    let full = read_all _ _ _ (let f = eqb-false _ _ (sym c.if-is_empty.ensures) in omega arith) c.loop-byte-test.false c.loop-byte.invariant.2 in
    ap Some c.loop-byte.invariant.1 ∙ ap plus (sym full)

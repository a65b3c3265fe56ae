-- `number_in` meets its contract: at each turn the digits that are left, read on from x, give the number.
use mathlib.Core.Path.{◌∙◌}
use native.Mathlib.Omega.{arith}
use Rattle.text_tokens.proofs.Decimals.{digit_least, number_starts, number_broken, number_next, number_large, number_ends}
use Rattle.text_tokens.proofs.tokens.number_in.Goals as goal

pub loop-d-init : goal.loop-d-init
loop-d-init c = record { small = omega arith; read = search number_starts }

pub returns-then-not-is_digit : goal.returns-then-not-is_digit
returns-then-not-is_digit c = search number_broken

pub overflow_sub-d : goal.overflow_sub-d
overflow_sub-d c = search digit_least

pub returns-in_err-checked_mul : goal.returns-in_err-checked_mul
returns-in_err-checked_mul c =
    c.from_residual.ensures
    ∙ number_large _ _ _ _ _ c.loop-d.invariant.read c.loop-d-test.true c.is_digit.ensures c.if-not-is_digit.false (omega (arith, c.in_err-checked_mul.ensures))

pub returns-in_err-x : goal.returns-in_err-x
returns-in_err-x c =
    c.from_residual-in_err-x.ensures
    ∙ number_large _ _ _ _ _ c.loop-d.invariant.read c.loop-d-test.true c.is_digit.ensures c.if-not-is_digit.false
    (omega (arith, c.in_err-x.ensures, c.in_ok-checked_mul.ensures, c.from.ensures))

pub loop-d-preserved : goal.loop-d-preserved
loop-d-preserved c = record {
  small = omega (arith, c.in_ok-x.ensures);
  read =
      number_next _ _ _ _ _ c.loop-d.invariant.read c.loop-d-test.true c.is_digit.ensures c.if-not-is_digit.false _
      (omega (arith, c.in_ok-x.ensures, c.in_ok-checked_mul.ensures, c.from.ensures));
}

pub returns : goal.returns
returns c = number_ends _ _ _ _ c.loop-d.invariant.read c.loop-d-test.false c.loop-d.invariant.small

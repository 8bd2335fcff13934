use native.Mathlib.Omega.{arith}
use Rattle.drawing.proofs.Digits.{counting_none, digits_end, digits_none, counting_on, counting_small}
use Rattle.drawing.proofs.outputs.digits.Goals as goal

pub loop-i-init : goal.loop-i-init
loop-i-init c = counting_none _ _ _

pub returns-then-not-is_ascii_digit : goal.returns-then-not-is_ascii_digit
returns-then-not-is_ascii_digit c = digits_none _ _ _ _ _ c.loop-i.invariant c.loop-i-test.true _ c.byte_at-b.ensures c.if-not-is_ascii_digit.ensures.cases

pub overflow_mul-v : goal.overflow_mul-v
overflow_mul-v c = omega (arith, counting_small _ _ _ _ _ c.loop-i.invariant c.requires)

pub overflow_add-v : goal.overflow_add-v
overflow_add-v c = omega (arith, counting_small _ _ _ _ _ c.loop-i.invariant c.requires)

pub loop-i-preserved : goal.loop-i-preserved
loop-i-preserved c = counting_on _ _ _ _ _ c.loop-i.invariant c.loop-i-test.true _ c.byte_at-b.ensures _ (omega (arith, c.if-not-is_ascii_digit.ensures.cases)) (omega (arith, c.if-not-is_ascii_digit.ensures.cases)) (rw c.from.ensures)

pub overflow_add-result : goal.overflow_add-result
overflow_add-result c = omega (arith, counting_small _ _ _ _ _ c.loop-i.invariant c.requires)

pub returns : goal.returns
returns c = digits_end _ _ _ _ _ c.loop-i.invariant c.loop-i-test.false

use Rattle.formula.proofs.Table.{find_hit, find_miss, find_end}
use native.Mathlib.Omega.{arith}
use mathlib.Core.Path.{refl, sym, ◌∙◌}
use Rattle.formula.proofs.Names.find_among.Goals as goal

pub loop-i-init : goal.loop-i-init
loop-i-init c = (omega arith, refl)

pub returns-then-is_key : goal.returns-then-is_key
returns-then-is_key c = sym (c.loop-i.invariant.1 ∙ find_hit _ _ _ _ _ _ _ c.loop-i-test.true (sym c.is_key.ensures ∙ c.if-is_key.true))

pub loop-i-preserved : goal.loop-i-preserved
loop-i-preserved c = (omega (arith, c.loop-i.invariant.0), c.loop-i.invariant.1 ∙ find_miss _ _ _ _ _ _ _ c.loop-i-test.true (sym c.is_key.ensures ∙ c.if-is_key.false))

pub returns : goal.returns
returns c = sym (c.loop-i.invariant.1 ∙ find_end _ _ _ _ _ _ _ c.loop-i-test.false)

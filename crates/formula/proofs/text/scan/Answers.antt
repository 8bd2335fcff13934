use mathlib.Core.Path.{sym, ◌∙◌}
use Rattle.formula.proofs.Laws.{past_hit, past_miss, past_end}
use Rattle.formula.proofs.text.scan.Goals as goal

pub loop-p-preserved : goal.loop-p-preserved
loop-p-preserved c = c.loop-p.invariant ∙ past_hit _ _ _ c.loop-p-test.true (sym c.in_class.ensures ∙ c.if-in_class.true)

pub returns-else-in_class : goal.returns-else-in_class
returns-else-in_class c = sym (c.loop-p.invariant ∙ past_miss _ _ _ c.loop-p-test.true (sym c.in_class.ensures ∙ c.if-in_class.false))

pub returns-after-loop-p : goal.returns-after-loop-p
returns-after-loop-p c = sym (c.loop-p.invariant ∙ past_end _ _ _ c.loop-p-test.false)

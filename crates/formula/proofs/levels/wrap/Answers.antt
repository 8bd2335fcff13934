use Rattle.formula.proofs.Laws.{wrap_more, wrap_end}
use Rattle.formula.specs.Emit.{inverted_once}
use mathlib.Core.Path.{sym, ◌∙◌}
use Rattle.formula.proofs.levels.wrap.Goals as goal
use Rattle.formula.proofs.levels.wrap.Goals.{else-sees, then-sees}

pub loop-i-preserved : goal.loop-i-preserved
loop-i-preserved c =
    c.loop-i.invariant
    ∙ wrap_more inverted_once _ _ _ _ _ c.loop-i-test.true
    (elim c.if-sees.branch [ then-sees w ↦ rw (w.gates-is, w.line-is, sym c.sees.ensures.is ∙ w.if-sees.true, w.add_not-line.ensures.gates, w.add_not-line.ensures.line) | else-sees w ↦ rw (w.gates-is, w.line-is, sym c.sees.ensures.is ∙ w.if-sees.false) ])

pub returns : goal.returns
returns c = sym (c.loop-i.invariant ∙ wrap_end inverted_once _ _ _ _ c.loop-i-test.false)

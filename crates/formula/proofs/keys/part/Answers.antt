use mathlib.Core.Path.{sym, ◌∙◌}
use Rattle.formula.proofs.Table.{part_end, part_more}
use Rattle.formula.proofs.keys.part.Goals as goal

pub loop-i-preserved : goal.loop-i-preserved
loop-i-preserved c = c.loop-i.invariant ∙ part_more _ _ _ _ c.loop-i-test.true ∙ rw (c.append-v.ensures, c.byte_at.ensures)

pub returns : goal.returns
returns c = sym (c.loop-i.invariant ∙ part_end _ _ _ _ c.loop-i-test.false)

use Rattle.drawing.proofs.Filling.{filled_none, filled_next, filled_all}
use Rattle.drawing.proofs.numbering.shift_all.Goals as goal

pub loop-k-init : goal.loop-k-init
loop-k-init c = filled_none _ _

pub loop-k-preserved : goal.loop-k-preserved
loop-k-preserved c = filled_next _ _ _ _ _ c.loop-k.invariant c.loop-k-test.true c.shift.ensures

pub returns : goal.returns
returns c = filled_all _ _ _ _ c.loop-k.invariant c.loop-k-test.false

use native.Mathlib.Omega.{arith}
use Rattle.drawing.specs.Outputs.{numbers_of}
use Rattle.drawing.proofs.Filling.{filled_none, filled_next, filled_end}
use Rattle.drawing.proofs.outputs.numbers.Goals as goal

pub loop-i-init : goal.loop-i-init
loop-i-init c = (omega arith, filled_none _ _)

pub loop-i-preserved : goal.loop-i-preserved
loop-i-preserved c = (omega (arith, c.len-i-end.ensures.is, c.loop-i-test.true), filled_next _ _ _ _ _ c.loop-i.invariant.1 (omega (arith, c.len-i-end.ensures.most, c.loop-i-test.true)) c.output_no.ensures)

pub returns : goal.returns
unfolding numbers_of
returns c = filled_end _ _ _ _ _ _ c.len-i-end.ensures.is (omega (arith, c.loop-i.invariant.0, c.len-i-end.ensures.is)) c.loop-i-test.false c.loop-i.invariant.1

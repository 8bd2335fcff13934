-- `circuit::depth::greatest_of` meets its contract: the greatest is that of what was passed and what is left.
use native.Mathlib.Omega.{arith}
use Rattle.circuit.proofs.Depths.{greatest_next, greatest_end}
use Rattle.circuit.proofs.depth.greatest_of.Goals as goal

pub loop-x-preserved : goal.loop-x-preserved
loop-x-preserved c = let l = c.loop-x in
    omega (arith, l.invariant, greatest_next c.args.xs.now l.x-index c.loop-x-test.true, c.max-top.ensures)

pub returns : goal.returns
returns c = omega (arith, c.loop-x.invariant, greatest_end c.args.xs.now c.loop-x.x-index c.loop-x-test.false)

-- `circuit::gate::tally` meets its contract. The invariant: the counts so far and those of the kinds left make the whole. Assumes nothing.
use Rattle.circuit.proofs.Counting.{counted_start, counted_more, counted_end}
use Rattle.circuit.proofs.gate.tally.Goals as goal

pub loop-kind-init : goal.loop-kind-init
loop-kind-init c = counted_start _

pub loop-kind-preserved : goal.loop-kind-preserved
loop-kind-preserved c = counted_more _ _ _ _ c.loop-kind-test.true c.loop-kind.invariant c.count_kind-t.ensures

pub returns : goal.returns
returns c = counted_end _ _ _ c.loop-kind-test.false c.loop-kind.invariant

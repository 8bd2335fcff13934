-- `grow` meets its contract: the state stands for the gates taken so far, and the table is that of its base.
use Rattle.builder.proofs.Steps.{stands_next, grown_over}
use Rattle.builder.proofs.grow.grow.Goals as goal

pub returns-in_default : goal.returns-in_default
returns-in_default c = grown_over _ _ _ _ c.loop-s.invariant.so_far c.loop-s-test.true c.in_default.ensures

pub add_gate-requires-clause-next : goal.add_gate-requires-clause-next
add_gate-requires-clause-next c = c.in-Some.ensures

pub loop-s-preserved : goal.loop-s-preserved
loop-s-preserved c = let l = c.loop-s.invariant in
    record { so_far = stands_next _ _ _ _ l.so_far _ _ _ _ _ l.tabled c.in-Some.ensures c.loop-s-test.true c.add_gate.ensures; tabled = c.add_gate.ensures.tabled }

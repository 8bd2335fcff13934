use Rattle.distance.specs.Base.{base_of}
use Rattle.builder.specs.Rule.{rows_of}
use Rattle.builder.proofs.Choice.{Passed}
use Rattle.builder.proofs.pairs.next_gate.Given as goal

abbrev pub invariant-loop-i : goal.invariant-loop-i
invariant-loop-i l = Passed (base_of l.base.masks.now l.base.depths.now) (rows_of l.rows.masks.now l.rows.limits.now) l.i l.sum

use Rattle.distance.proofs.FirstTable.{FirstPart}
use Rattle.builder.proofs.first.first_table.Given as goal

abbrev pub invariant-loop-t : goal.invariant-loop-t
invariant-loop-t l = FirstPart l.inputs.n l.inputs.arrivals.now l.t l.h

use Rattle.builder.proofs.MaskSums.{Half}
use Rattle.builder.proofs.first.take_input.Given as goal

abbrev pub invariant-loop-t : goal.invariant-loop-t
invariant-loop-t l = Half l.i l.inputs.arrivals.now l.top l.c l.t l.sums

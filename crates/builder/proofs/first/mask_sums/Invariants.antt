use Rattle.builder.specs.Kept.{MaskSums}
use Rattle.builder.proofs.first.mask_sums.Given as goal

abbrev pub invariant-loop-i : goal.invariant-loop-i
invariant-loop-i l = MaskSums l.i l.inputs.arrivals.now l.sums

use Rattle.hint.proofs.Summing.{SummedTo}
use Rattle.hint.proofs.masks_of.Given as goal

abbrev pub invariant-loop-k : goal.invariant-loop-k
invariant-loop-k l = SummedTo l.b l.k l.masks

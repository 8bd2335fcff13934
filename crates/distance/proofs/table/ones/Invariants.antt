use Rattle.distance.proofs.BySizes.{Entered}
use Rattle.distance.proofs.table.ones.Given as goal

abbrev pub invariant-loop-i : goal.invariant-loop-i
invariant-loop-i l = Entered l.h l.base.masks.now l.base.depths.now l.i

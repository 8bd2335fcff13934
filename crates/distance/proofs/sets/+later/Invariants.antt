use Rattle.distance.proofs.Search.{Passed}
use Rattle.distance.proofs.sets.+later.Given as goal

abbrev pub decreases-later : goal.decreases-later
decreases-later l = l.k

abbrev pub invariant-loop-i : goal.invariant-loop-i
invariant-loop-i l = Passed l.base.masks.now l.base.depths.now l.from l.i l.k l.t l.left

use Prim.Native.Nat.{◌≤◌}
use Rattle.sweep.proofs.Holding.{Merged}
use Rattle.sweep.proofs.merge.Given as goal

abbrev pub invariant-loop-k : goal.invariant-loop-k
invariant-loop-k l = (l.count ≤ l.k) × Merged l.c l.live l.k l.keys l.kinds l.left l.right l.new l.count

use Rattle.circuit.proofs.Depths.{Held}
use Rattle.circuit.proofs.depth.line_depths.Given as goal

abbrev pub invariant-loop-k : goal.invariant-loop-k
invariant-loop-k l = Held l.c l.k l.deep

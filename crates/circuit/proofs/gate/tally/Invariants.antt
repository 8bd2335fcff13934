use Rattle.circuit.proofs.Counting.{Counted}
use Rattle.circuit.proofs.gate.tally.Given as goal

abbrev pub invariant-loop-kind : goal.invariant-loop-kind
invariant-loop-kind l = Counted l.kinds l.t l.kind-index

use Rattle.builder.proofs.SumsOf.{Left}
use Rattle.builder.proofs.look.sums_of.Given as goal

abbrev pub invariant-loop-k : goal.invariant-loop-k
invariant-loop-k l = Left l.inputs.n l.inputs.arrivals.now l.t l.weight l.load l.rest l.k

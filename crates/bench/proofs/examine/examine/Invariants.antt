use Rattle.bench.proofs.Examining.{Examining}
use Rattle.bench.proofs.examine.examine.Given as goal

abbrev pub invariant-loop-j : goal.invariant-loop-j
invariant-loop-j l = Examining l.initial.c l.c l.j

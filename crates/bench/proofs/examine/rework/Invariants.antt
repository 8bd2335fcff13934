use Rattle.bench.proofs.Turn.{Turn}
use Rattle.bench.proofs.examine.rework.Given as goal

abbrev pub invariant-loop-j : goal.invariant-loop-j
invariant-loop-j l = Turn l.initial.c l.k l.c l.lines l.count l.marks l.j

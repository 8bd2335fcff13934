use Rattle.bench.proofs.Places.{Tells}
use Rattle.bench.proofs.Sweeps.{lines_of}
use Rattle.bench.proofs.sweeping.kept_lines.Given as goal

abbrev pub invariant-loop-k : goal.invariant-loop-k
invariant-loop-k l = Tells l.lines l.k (lines_of l.n l.k)

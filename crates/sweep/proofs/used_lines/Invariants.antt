use mathlib.Core.Path.{◌≡◌}
use Rattle.sweep.specs.Parts.{marked}
use Rattle.sweep.proofs.Marks.{Reached}
use Rattle.sweep.proofs.used_lines.Given as goal

abbrev pub invariant-loop-k : goal.invariant-loop-k
invariant-loop-k l = l.marks ≡ marked (Reached l.c l.k)

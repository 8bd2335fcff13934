use mathlib.Core.Path.{◌≡◌}
use lib.ListN.{take}
use Rattle.circuit.specs.Lines.{padded}
use Rattle.circuit.specs.Sizes.{most_outputs}
use Rattle.builder.specs.Kept.{misses as misses_of, next_gaps}
use Rattle.builder.proofs.grow.lowered.Given as goal

abbrev pub invariant-loop-i : goal.invariant-loop-i
invariant-loop-i l = l.next ≡ padded most_outputs 0 (take l.i (next_gaps (misses_of l.h l.line.mask l.line.cost) l.gaps l.rows.masks.now l.rows.limits.now))

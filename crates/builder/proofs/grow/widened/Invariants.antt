use mathlib.Core.Path.{◌≡◌}
use lib.ListN.{take}
use Rattle.circuit.specs.Lines.{padded}
use Rattle.circuit.specs.Sizes.{most_outputs}
use Rattle.builder.proofs.grow.widened.Given as goal

abbrev pub invariant-loop-i : goal.invariant-loop-i
invariant-loop-i l = l.wide ≡ padded most_outputs 0 (take l.i l.rows)

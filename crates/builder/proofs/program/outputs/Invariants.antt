use mathlib.Core.List.{map}
use mathlib.Core.Path.{◌≡◌}
use lib.ListN.{take}
use Rattle.circuit.specs.Lines.{padded}
use Rattle.circuit.specs.Sizes.{most_outputs}
use Rattle.distance.specs.Base.{base_of}
use Rattle.builder.specs.Rule.{rows_of, lowest}
use Rattle.builder.proofs.program.outputs.Given as goal

abbrev pub invariant-loop-i : goal.invariant-loop-i
invariant-loop-i l = l.outs ≡ padded most_outputs 0 (take l.i (map (lowest (base_of l.base.masks.now l.base.depths.now)) (rows_of l.rows.masks.now l.rows.limits.now)))

use mathlib.Core.Path.{◌≡◌}
use Rattle.circuit.specs.Lines.{padded}
use Rattle.circuit.specs.Rows.{input_masks}
use Rattle.circuit.specs.Sizes.{most_lines}
use Rattle.hint.proofs.input_masks.Given as goal

abbrev pub invariant-loop-i : goal.invariant-loop-i
invariant-loop-i l = l.masks ≡ padded most_lines 0 (input_masks l.i)

use mathlib.Core.Path.{◌≡◌}
use lib.ListN.{take}
use Rattle.circuit.specs.Gate.{no_words}
use Rattle.circuit.specs.Lines.{input_words, padded}
use Rattle.circuit.specs.Sizes.{most_lines}
use Rattle.bench.proofs.examine.inputs_only.Given as goal

abbrev pub invariant-loop-i : goal.invariant-loop-i
invariant-loop-i l = l.values ≡ padded most_lines no_words (take l.i input_words)

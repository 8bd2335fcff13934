-- `inputs_only`: the inputs so far, and nothing past them.
use native.Mathlib.Omega.{arith}
use mathlib.Core.Path.{ap, ◌∙◌}
use mathlib.Core.List.{List}
use lib.ListN.{set}
use Rattle.circuit.specs.declared.Words.{Words}
use Rattle.circuit.specs.Gate.{no_words}
use Rattle.circuit.specs.Lines.{input_words}
use Rattle.circuit.specs.Sizes.{most_lines}
use Rattle.circuit.proofs.Padding.{padded_next}
use Rattle.bench.proofs.examine.inputs_only.Goals as goal

pub loop-i-preserved : goal.loop-i-preserved
loop-i-preserved c = let i = c.loop-i.i in
    ap (λ (l : List Words). set l i c.input_words.result) c.loop-i.invariant
    ∙ padded_next most_lines no_words input_words i c.input_words.result (omega arith) (omega arith) c.input_words.ensures

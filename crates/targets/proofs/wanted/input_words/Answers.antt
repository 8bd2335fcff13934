-- `targets::wanted::input_words` meets its contract. Assumes nothing.
use mathlib.Core.Path.{sym}
use lib.ListN.{get_or-eq_default}
use Rattle.circuit.specs.Gate.{no_words}
use Rattle.circuit.specs.Lines.{input_words}
use Rattle.targets.proofs.wanted.input_words.Goals as goal

pub returns-else-i-lt-INPUTS : goal.returns-else-i-lt-INPUTS
returns-else-i-lt-INPUTS c = sym (get_or-eq_default input_words no_words c.if-i-lt-INPUTS.false)

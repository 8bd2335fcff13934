-- `coded::equations` meets its contract. Assumes nothing.
use mathlib.Core.Path.{ap, ◌∙◌}
use Rattle.coded.specs.Coded.{drawn_code}
use Rattle.coded.proofs.equations.Goals as goal

pub returns : goal.returns
returns c = let k = c.equations.ensures in
    record { answer = c.drawn_numbers.ensures ∙ ap drawn_code k.answer; bytes = k.bytes }

use mathlib.Core.Path.{◌∙◌}
use Rattle.formula.specs.Names.{high_key}
use Rattle.formula.proofs.keys.high_key.Goals as goal

pub returns : goal.returns
unfolding high_key
returns c = c.part.ensures ∙ rw c.half.ensures

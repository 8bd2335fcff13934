use mathlib.Core.Path.{◌∙◌}
use Rattle.formula.specs.Names.{low_key}
use Rattle.formula.proofs.keys.low_key.Goals as goal

pub returns : goal.returns
unfolding low_key
returns c = c.part.ensures ∙ rw c.half.ensures

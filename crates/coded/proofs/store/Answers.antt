-- `coded::store` meets its contract. Assumes nothing.
use mathlib.Core.Path.{◌∙◌, ap}
use Rattle.stored.specs.Writing.{writing_code}
use Rattle.coded.proofs.store.Goals as goal

pub returns : goal.returns
returns c = λ p st. let k = c.store-written.ensures p st in (c.writing_code.ensures ∙ ap writing_code k.0, k.1)

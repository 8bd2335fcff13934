-- `targets::wanted::wanted_by` meets its contract. Assumes nothing.
use mathlib.Core.Path.{◌∙◌, sym, ap}
use mathlib.Core.Bool.{Bool}
use Rattle.circuit.specs.Sizes.{most_inputs}
use Rattle.targets.specs.Wanted.{row_words, wanted_words}
use Rattle.targets.specs.Target.{target_by}
use Rattle.targets.proofs.Bytes.{row_read}
use Rattle.targets.proofs.wanted.wanted_by.Goals as goal

pub returns-then-only : goal.returns-then-only
unfolding wanted_words
returns-then-only c = let a = c.args in
    c.row_words.ensures ∙ ap row_words (sym (row_read most_inputs a.m a.target.now a.j c.requires.1))
    ∙ sym (ap (λ (t : Bool). wanted_words (target_by t most_inputs a.m a.target.now) a.j) c.if-only.true)

pub returns-else-only : goal.returns-else-only
unfolding wanted_words
returns-else-only c = let a = c.args in
    c.column_words.ensures ∙ sym (ap (λ (t : Bool). wanted_words (target_by t most_inputs a.m a.target.now) a.j) c.if-only.false)

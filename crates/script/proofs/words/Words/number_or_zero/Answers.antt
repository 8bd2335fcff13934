-- `words::Words::number_or_zero` meets its contract. Assumes nothing.
use mathlib.Core.Path.{sym, ◌∙◌}
use borrow.Author.Tests.{not-true, not-false}
use Rattle.script.proofs.Steps.{zero_left, zero_word}
use Rattle.script.proofs.words.Words.number_or_zero.Goals as goal

pub returns-then-is_end : goal.returns-then-is_end
returns-then-is_end c = zero_left _ (not-true _ (sym c.is_end.ensures ∙ c.if-is_end.true))

pub returns-else-is_end : goal.returns-else-is_end
returns-else-is_end c = zero_word c.args.self.now _ (not-false _ (sym c.is_end.ensures ∙ c.if-is_end.false)) _ c.number.ensures

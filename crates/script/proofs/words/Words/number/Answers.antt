-- `words::Words::number` meets its contract. The number is what `read_number` answers of the word. Assumes nothing.
use Rattle.text.specs.Numbers.{number_in}
use Rattle.script.proofs.Steps.{word_is, word_read, number_value, number-not, number_none}
use Rattle.script.proofs.words.Words.number.Goals as goal

pub returns-in_err-word : goal.returns-in_err-word
returns-in_err-word c = rw c.from_residual.ensures (number_none _ c.in_err-word.ensures)

pub returns-in_err-value : goal.returns-in_err-value
returns-in_err-value c = rw c.from_residual-in_err-value.ensures (number-not _ (word_is number_in c.in_ok-word.ensures c.in_err-value.ensures))

pub returns : goal.returns
returns c = word_read c.in_ok-word.ensures (number_value _ _ (word_is number_in c.in_ok-word.ensures c.in_ok-value.ensures))

-- `words::Words::limit` meets its contract. A limit is a number of at most 255. Assumes nothing.
use Rattle.script.proofs.Steps.{limit_none, limit_took}
use Rattle.script.proofs.words.Words.limit.Goals as goal

pub returns-in_err-value : goal.returns-in_err-value
returns-in_err-value c = rw c.from_residual.ensures (limit_none _ c.in_err-value.ensures)

pub returns : goal.returns
returns c = rw c.ok.ensures.value (limit_took c.in_ok-value.ensures _ c.try_from.ensures)

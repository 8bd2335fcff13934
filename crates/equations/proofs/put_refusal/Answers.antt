-- `equations::put_refusal` meets its contract. Assumes nothing.
use borrow.Author.Rules.{rules}
use Rattle.text.proofs.Putting.{put_free}
use Rattle.equations.proofs.put_refusal.Goals as goal

pub returns-in-NotStored-clause-put : goal.returns-in-NotStored-clause-put
returns-in-NotStored-clause-put c = rw c.in-NotStored.is (put_free (search rules) c.put_refused.ensures)

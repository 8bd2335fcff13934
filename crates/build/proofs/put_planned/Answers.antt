-- `build::put_planned` meets its contract. Assumes nothing.
use borrow.Author.Rules.{rules}
use Rattle.text.proofs.Putting.{put_free}
use Rattle.build.proofs.put_planned.Goals as goal

pub put_circuit-requires : goal.put_circuit-requires
put_circuit-requires c = c.requires _ c.in-Ok.is

pub returns-in-Err-clause-put : goal.returns-in-Err-clause-put
returns-in-Err-clause-put c = rw c.in-Err.is (put_free (search rules) c.put_refused.ensures)

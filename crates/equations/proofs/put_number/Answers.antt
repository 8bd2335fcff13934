-- `equations::put_number` meets its contract. Assumes nothing.
use native.Mathlib.Omega.{arith}
use Rattle.text.proofs.Putting.{put_then, put_free}
use Rattle.equations.proofs.put_number.Goals as goal

pub returns-clause-put : goal.returns-clause-put
returns-clause-put c = put_then (omega arith) (put_free (omega arith) c.put_labelled-next.ensures) (put_free (omega arith) c.put.ensures)

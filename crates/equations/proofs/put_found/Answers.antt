-- `equations::put_found` meets its contract. Assumes nothing.
use native.Mathlib.Omega.{arith}
use Rattle.text.proofs.Putting.{put_then, put_free}
use Rattle.equations.specs.Answered.{found_text}
use Rattle.equations.proofs.put_found.Goals as goal

pub returns-clause-put : goal.returns-clause-put
unfolding found_text
returns-clause-put c = let two = put_then (omega arith) (put_free (omega arith) c.put_placed-placed.ensures) (put_free (omega arith) c.put_labelled-line.ensures) in
    let three = put_then (omega arith) two (put_free (omega arith) c.put_labelled-column.ensures) in
    put_then (omega arith) three (put_free (omega arith) c.put.ensures)

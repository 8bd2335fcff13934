-- `talk::lines::put_tally` meets its contract. Assumes nothing.
use native.Mathlib.Omega.{arith}
use Rattle.text.proofs.Putting.{put_then, put_free}
use Rattle.talk.proofs.lines.put_tally.Goals as goal

pub returns-clause-put : goal.returns-clause-put
returns-clause-put c = let two = put_then (omega arith) (put_free (omega arith) c.put_labelled-end.ensures) (put_free (omega arith) c.put_labelled-xors.ensures) in
    let three = put_then (omega arith) two (put_free (omega arith) c.put_labelled-nonlinear.ensures) in
    put_then (omega arith) three (put_free (omega arith) c.put_labelled.ensures)

-- `listing::put_four` meets its contract. Assumes nothing.
use native.Mathlib.Omega.{arith}
use Rattle.text.proofs.Putting.{put_then, put_free}
use Rattle.listing.specs.Printed.{counts_text}
use Rattle.listing.proofs.put_four.Goals as goal

pub returns-clause-put : goal.returns-clause-put
unfolding counts_text
returns-clause-put c = let two = put_then (omega arith) (put_free (omega arith) c.put_labelled-inputs.ensures) (put_free (omega arith) c.put_labelled-outputs.ensures) in
    let three = put_then (omega arith) two (put_free (omega arith) c.put_labelled-gates.ensures) in
    put_then (omega arith) three (put_free (omega arith) (rw c.from.ensures at c.put_labelled.ensures))

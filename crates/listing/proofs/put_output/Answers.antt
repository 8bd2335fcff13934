-- `listing::put_output` meets its contract. Assumes nothing.
use native.Mathlib.Omega.{arith}
use Rattle.text.proofs.Putting.{put_then, put_free}
use Rattle.listing.specs.Printed.{output_line}
use Rattle.listing.proofs.put_output.Goals as goal

pub returns-clause-put : goal.returns-clause-put
unfolding output_line
returns-clause-put c = let start = put_then (omega arith) (put_free (omega arith) c.put_numbered-named.ensures) (put_free (omega arith) c.put-start.ensures) in
    put_then (omega arith) (put_then (omega arith) start c.put_name-end.ensures.put) (put_free (omega arith) c.put.ensures)

-- `listing::put_gate` meets its contract. Assumes nothing.
use native.Mathlib.Omega.{arith}
use Rattle.text.proofs.Putting.{put_then, put_free}
use Rattle.listing.specs.Printed.{gate_line}
use Rattle.listing.proofs.put_gate.Goals as goal

pub returns-clause-put : goal.returns-clause-put
unfolding gate_line
returns-clause-put c = let start = put_then (omega arith) (put_free (omega arith) c.put_numbered-named.ensures) (put_free (omega arith) c.put-start.ensures) in
    put_then (omega arith) (put_then (omega arith) start c.put_formula-end.ensures.put) (put_free (omega arith) c.put.ensures)

-- `listing::put_name` meets its contract. Assumes nothing.
use native.Mathlib.Omega.{arith}
use Rattle.text.proofs.Putting.{put_as, put_free}
use Rattle.listing.proofs.Names.{input_name, gate_name}
use Rattle.listing.proofs.put_name.Goals as goal

pub returns-then-line-n-clause-put : goal.returns-then-line-n-clause-put
returns-then-line-n-clause-put c = let a = c.args in
    put_as (input_name a.n a.line (omega arith)) (put_free (omega arith) c.put_numbered.ensures)

pub returns-else-line-n-clause-put : goal.returns-else-line-n-clause-put
returns-else-line-n-clause-put c = let a = c.args in
    put_as (gate_name a.n a.line c.if-line-n.false) (put_free (omega arith) c.put_numbered-else-line-n.ensures)

-- `listing::put_not` meets its contract. Assumes nothing.
use native.Mathlib.Omega.{arith}
use Rattle.text.proofs.Putting.{put_then, put_free}
use Rattle.listing.proofs.put_not.Goals as goal

pub returns-clause-put : goal.returns-clause-put
returns-clause-put c = put_then (omega arith) (put_free (omega arith) c.put-next.ensures) c.put_name.ensures.put

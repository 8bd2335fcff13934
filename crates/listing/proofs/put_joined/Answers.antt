-- `listing::put_joined` meets its contract. Assumes nothing.
use native.Mathlib.Omega.{arith}
use Rattle.text.proofs.Putting.{put_then, put_free}
use Rattle.listing.proofs.put_joined.Goals as goal

pub returns-clause-put : goal.returns-clause-put
returns-clause-put c = put_then (omega arith) (put_then (omega arith) c.put_name-first.ensures.put (put_free (omega arith) c.put-second.ensures)) c.put_name.ensures.put

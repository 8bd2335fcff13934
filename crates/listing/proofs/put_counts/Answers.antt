-- `listing::put_counts` meets its contract. Assumes nothing.
use Rattle.text.proofs.Putting.{is_free, not_free, put_fits, put_short}
use Rattle.listing.proofs.put_counts.Goals as goal

pub returns-then-not-is_free : goal.returns-then-not-is_free
returns-then-not-is_free c = put_short (not_free _ _ c.is_free.ensures c.if-not-is_free.true-raw)

pub put_four-requires : goal.put_four-requires
put_four-requires c = is_free _ _ c.is_free.ensures c.if-not-is_free.false-raw

pub returns : goal.returns
returns c = put_fits (is_free _ _ c.is_free.ensures c.if-not-is_free.false-raw) c.put_four.ensures.upper_bound c.put_four.ensures.put

-- `talk::held::put_groups` meets its contract. The invariant: the groups so far are put. Assumes nothing.
use native.Mathlib.Omega.{arith}
use borrow.Author.Rules.{rules}
use Rattle.text.proofs.Putting.{put-none, put_then, put_as}
use Rattle.listing.specs.Printed.{lines_to}
use Rattle.listing.proofs.Listed.{lines_next}
use Rattle.talk.specs.Saying.{group_in}
use Rattle.talk.proofs.held.put_groups.Goals as goal

pub loop-i-init : goal.loop-i-init
unfolding lines_to
loop-i-init c = record { so_far = search rules; put = put-none c.args.room.now c.args.at }

pub loop-i-preserved : goal.loop-i-preserved
loop-i-preserved c = record {
  so_far = omega (arith, c.put_group-next.ensures.upper_bound);
  put = put_as (lines_next (group_in c.args.b.now) c.loop-i.i) (put_then (omega arith) c.loop-i.invariant.put c.put_group-next.ensures.put);
}

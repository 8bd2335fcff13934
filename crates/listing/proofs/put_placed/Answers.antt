-- `listing::put_placed` meets its contract. Assumes nothing.
use Prim.Native.Nat.{◌≤◌}
use native.Mathlib.Omega.{arith}
use lib.ListN.{length}
use Rattle.text.proofs.Putting.{put_then, is_free, not_free, put_fits, put_short, put_free}
use Rattle.listing.specs.Printed.{placed_size}
use Rattle.listing.proofs.put_placed.Goals as goal

pub returns-then-not-is_free : goal.returns-then-not-is_free
returns-then-not-is_free c = put_short (not_free _ _ c.is_free.ensures c.if-not-is_free.true-raw)

pub returns : goal.returns
returns c = let a = c.args in
    let room : placed_size ≤ length a.room.now = is_free _ _ c.is_free.ensures c.if-not-is_free.false-raw in
    let all = put_then (omega arith) (put_free (omega arith) c.put_labelled-next.ensures) (put_free (omega arith) c.put_labelled.ensures) in
    put_fits room (omega arith) all

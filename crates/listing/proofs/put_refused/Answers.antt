-- `listing::put_refused` meets its contract. Assumes nothing.
use mathlib.Core.Path.{ap}
use mathlib.Core.List.{◌++◌}
use Prim.Native.Nat.{ℕ, ◌≤◌}
use native.Mathlib.Omega.{arith}
use lib.ListN.{length}
use Rattle.text.specs.Numbers.{labelled}
use Rattle.text.proofs.Putting.{put_then, put_as, is_free, not_free, put_fits, put_short, put_free}
use Rattle.listing.specs.Printed.{new_line, refused_name, refused_size}
use Rattle.listing.proofs.put_refused.Goals as goal

pub returns-then-not-is_free : goal.returns-then-not-is_free
returns-then-not-is_free c = put_short (not_free _ _ c.is_free.ensures c.if-not-is_free.true-raw)

pub returns : goal.returns
returns c = let a = c.args in
    let room : refused_size ≤ length a.room.now = is_free _ _ c.is_free.ensures c.if-not-is_free.false-raw in
    let no = c.refusal_no.ensures.0 in
    let all = put_then (omega arith) (put_free (omega arith) c.put_labelled-next.ensures) (put_free (omega arith) c.put.ensures) in
    put_fits room (omega arith) (put_as (ap (λ (x : ℕ). labelled refused_name x ++ new_line) no) all)

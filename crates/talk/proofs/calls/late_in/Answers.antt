-- `talk::calls::late_in` meets its contract. Assumes nothing.
use native.Mathlib.Omega.{arith}
use lib.ListN.{take, drop}
use Rattle.script.specs.Order.{bytes_of}
use Rattle.talk.proofs.Storing.{lent_long}
use Rattle.talk.proofs.Building.{late_as, late_first}
use Rattle.talk.proofs.calls.late_in.Goals as goal

pub returns : goal.returns
returns c = let w = c.build_late in
    let a = c.args in
    let line = a.line.now in
    let lent = c.min-lent.result in
    let long = lent_long a.q.room a.room.now c.min-lent.ensures (omega arith) in
    late_first a.q.n (bytes_of line a.q.arrivals) (bytes_of line a.q.rows) (bytes_of line a.q.limits) a.q.room lent (take lent a.room.now) (drop lent a.room.now) _ w.result
    c.min-lent.ensures long (late_as c.lay-arrivals.ensures.bytes c.lay-rows.ensures.bytes c.lay-limits.ensures.bytes w.ensures)

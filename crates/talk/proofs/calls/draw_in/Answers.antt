-- `talk::calls::draw_in` meets its contract. Assumes nothing.
use native.Mathlib.Omega.{arith}
use lib.ListN.{take, drop}
use Rattle.script.specs.Order.{bytes_of}
use Rattle.talk.proofs.Storing.{lent_long}
use Rattle.talk.proofs.Files.{draws_as, draws_first}
use Rattle.talk.proofs.calls.draw_in.Goals as goal

pub returns : goal.returns
returns c = let w = c.equations in
    let a = c.args in
    let line = a.line.now in
    let lent = c.min-lent.result in
    let long = lent_long a.q.room a.room.now c.min-lent.ensures (omega arith) in
    draws_first (bytes_of line a.q.file) a.q.room lent (take lent a.room.now) (drop lent a.room.now) _ w.result
    c.min-lent.ensures long (draws_as c.lay-file.ensures.bytes w.ensures)

-- `talk::calls::store_in` meets its contract. Assumes nothing.
use native.Mathlib.Omega.{arith}
use lib.ListN.{take, drop}
use Rattle.talk.proofs.Storing.{lent_long, stores_first}
use Rattle.talk.proofs.calls.store_in.Goals as goal

pub returns : goal.returns
returns c = let w = c.store in
    let a = c.args in
    let lent = c.min-lent.result in
    stores_first a.b a.size lent (take lent a.room.now) (drop lent a.room.now) _ w.result c.min-lent.ensures (lent_long a.size a.room.now c.min-lent.ensures (omega arith)) w.ensures

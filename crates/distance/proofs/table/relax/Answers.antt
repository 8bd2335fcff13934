-- `relax` meets its contract: each of the four entries becomes the lesser of what it was and the sum.
use native.Mathlib.Omega.{arith}
use Rattle.distance.proofs.Entries.{made0, made1, made2, made3, four_stored}
use Rattle.distance.proofs.table.relax.Goals as goal

pub returns : goal.returns
returns c = let a = c.args in
    four_stored a.h.now a.m a.c _ _ _ _ _
    (made0 a.h.now a.q a.m a.c c.requires.past_none (omega arith) _ _ (rw c.from.ensures at c.pick-w0.ensures) c.lesser-r0.ensures)
    (made1 a.h.now a.q a.m a.c c.requires.past_none (omega arith) _ _ (rw c.from.ensures at c.pick-w1.ensures) c.lesser-r1.ensures)
    (made2 a.h.now a.q a.m a.c c.requires.past_none (omega arith) _ _ (rw c.from.ensures at c.pick-w2.ensures) c.lesser-r2.ensures)
    (made3 a.h.now a.q a.m a.c c.requires.past_none (omega arith) _ _ (rw c.from.ensures at c.pick-w3.ensures) c.lesser-r3.ensures)

-- `take_into` meets its contract: the entries from 4 * q on are done, and those below are as they were.
use Prim.Native.Nat.{◌*◌}
use native.Mathlib.Omega.{arith}
use borrow.Author.Rules.{rules}
use Rattle.distance.proofs.Entries.{part_four}
use Rattle.distance.proofs.table.take_into.Goals as goal

pub loop-q-preserved : goal.loop-q-preserved
loop-q-preserved c =
    rw c.relax.ensures
    (part_four _ _ _ _ (c.loop-q.q * 4) _ _ _ (search rules) (omega (arith, c.requires.past_none)) (omega (arith, c.loop-q-test.true)) (omega (arith, c.loop-q-test.true)) c.loop-q.invariant)

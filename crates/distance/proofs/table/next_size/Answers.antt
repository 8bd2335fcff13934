-- `next_size` meets its contract: the masks below m are taken in.
use mathlib.Core.Path.{refl}
use native.Mathlib.Omega.{arith}
use Rattle.distance.proofs.BySizes.{sized_skip, sized_more}
use Rattle.distance.proofs.table.next_size.Goals as goal
use Rattle.distance.proofs.table.next_size.Goals.{else-c-left, then-c-left}

pub loop-m-preserved : goal.loop-m-preserved
loop-m-preserved c =
    let p = c.requires.past_one in
    elim c.if-c-left.branch [
      | then-c-left w ↦ rw w.h-is (sized_more _ _ _ _ _ _ _ p (omega (arith, c.loop-m-test.true)) refl w.take_into.ensures c.loop-m.invariant)
      | else-c-left w ↦ rw w.h-is (sized_skip _ _ _ _ _ p (omega (arith, c.loop-m-test.true)) (omega (arith, w.if-c-left.false)) c.loop-m.invariant)
    ]

-- `aim` meets its contract: the goals so far are those of the rows looked at.
use mathlib.Core.Path.{ap}
use Prim.Native.Nat.{◌-◌, ◌<◌}
use native.Mathlib.Omega.{arith}
use lib.ListN.{length, get_or}
use Rattle.builder.specs.Kept.{places, rooms, lows}
use Rattle.builder.proofs.Fields.{goal_put}
use Rattle.builder.proofs.Goals.{aiming_start, aiming_made, aiming_end, aiming_eq}
use Rattle.builder.proofs.pairs.aim.Goals as goal
use Rattle.builder.proofs.pairs.aim.Goals.{else-gap-ne0, then-gap-ne0}

pub loop-i-init : goal.loop-i-init
loop-i-init c = aiming_start _ _ _

pub loop-i-preserved : goal.loop-i-preserved
loop-i-preserved c = let r = c.args.rows.now in
    let l = c.loop-i in
    let here : l.i < length r.masks.now = omega (arith, c.loop-i-test.true, c.requires.paired) in
    elim c.if-gap-ne0.branch [
      | then-gap-ne0 w ↦
          aiming_eq r.masks.now r.limits.now c.args.gaps.now (ap places w.goals-is) (ap rooms w.goals-is) (ap lows w.goals-is) w.count-is w.floor-is
          (rw (w.from.ensures, w.from-then-gap-ne0.ensures, w.from-floor.ensures)
          (goal_put _ _ _ _ _ _ _ (get_or c.args.gaps.now l.i 0 - 1) _ r.paired c.requires.paired r.few here l.invariant (omega (arith, w.if-gap-ne0.true)) (omega (arith, c.requires.near l.i)) w.cost.ensures))
      | else-gap-ne0 w ↦
          aiming_eq r.masks.now r.limits.now c.args.gaps.now (ap places w.goals-is) (ap rooms w.goals-is) (ap lows w.goals-is) w.count-is w.floor-is
          (aiming_made _ _ _ _ _ _ _ _ _ r.paired c.requires.paired r.few here l.invariant w.if-gap-ne0.false)
    ]

pub returns : goal.returns
returns c = aiming_end _ _ _ _ _ _ _ _ _ c.args.rows.now.paired c.requires.paired (omega (arith, c.loop-i-test.false, c.requires.paired)) c.loop-i.invariant

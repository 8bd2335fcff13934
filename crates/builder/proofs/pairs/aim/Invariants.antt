use Rattle.builder.specs.Kept.{places, rooms, lows}
use Rattle.builder.proofs.Goals.{Aiming}
use Rattle.builder.proofs.pairs.aim.Given as goal

abbrev pub invariant-loop-i : goal.invariant-loop-i
invariant-loop-i l = Aiming l.rows.masks.now l.rows.limits.now l.gaps (places l.goals) (rooms l.goals) (lows l.goals) l.count l.floor l.i

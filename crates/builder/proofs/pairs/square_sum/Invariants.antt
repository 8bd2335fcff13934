use Rattle.builder.specs.Kept.{misses as misses_of, places, rooms, lows}
use Rattle.builder.proofs.Goals.{Squared}
use Rattle.builder.proofs.pairs.square_sum.Given as goal

abbrev pub invariant-loop-goal : goal.invariant-loop-goal
invariant-loop-goal l = Squared (misses_of l.h l.line.mask l.line.cost) (places l.goals) (rooms l.goals) (lows l.goals) l.goal-index l.sum

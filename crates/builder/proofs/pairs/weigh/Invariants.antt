use mathlib.Core.Path.{◌≡◌}
use Prim.Native.Nat.{◌-◌}
use Rattle.distance.specs.Base.{base_of, xor}
use Rattle.builder.specs.Rule.{best, start, all_pairs}
use Rattle.builder.specs.Kept.{misses as misses_of, look_up, places, rooms, lows, goals_with}
use Rattle.builder.proofs.Goals.{Missed}
use Rattle.builder.proofs.Passing.{Seen, Along}
use Rattle.builder.proofs.pairs.weigh.Given as goal

abbrev pub invariant-loop-goal : goal.invariant-loop-goal
invariant-loop-goal l = Missed (misses_of l.h l.line.0 l.line.1.0) (places l.goals) (rooms l.goals) (lows l.goals) l.goal-index l.sum

abbrev pub invariant-pairs : goal.invariant-pairs
invariant-pairs l = let was = l.initial.pick in Along l.base.masks.now l.base.depths.now (places l.goals) (rooms l.goals) (lows l.goals) l.h l.top l.i was.total was.square was.pair.a was.pair.b l.pick.total l.pick.square l.pick.pair.a l.pick.pair.b l.seen l.j

abbrev pub invariant-loop-i : goal.invariant-loop-i
invariant-loop-i l =
    let ls = base_of l.base.masks.now l.base.depths.now in
    let after = goals_with (look_up l.h ls) (places l.goals) (rooms l.goals) (lows l.goals) in
    record {
      best_is : all_pairs ls after l.top l.i-end 0 start ≡ all_pairs ls after l.top (l.i-end - l.i) l.i (best l.pick.total l.pick.square (xor l.pick.pair.a l.pick.pair.b));
      seen_is : Seen l.h (places l.goals) (rooms l.goals) (lows l.goals) l.seen l.top l.pick.total l.pick.square;
    }

-- `square_sum` meets its contract: what is summed, and the squares of the goals that are left.
use native.Mathlib.Nat.{mul-le-mul}
use native.Mathlib.Omega.{arith}
use Rattle.builder.proofs.Fields.{place_in, places_length, squared_small, squared_next}
use Rattle.builder.proofs.Goals.{squared_start, squared_end}
use Rattle.builder.proofs.pairs.square_sum.Goals as goal

pub loop-goal-init : goal.loop-goal-init
loop-goal-init c = squared_start _ _ _ _ c.requires.goals

pub misses-requires-clause-in_table : goal.misses-requires-clause-in_table
misses-requires-clause-in_table c = place_in _ _ c.requires.goals

pub overflow_add-gap : goal.overflow_add-gap
overflow_add-gap c = omega (arith, squared_small _ _ _ _ _ 0 _ c.requires.goals c.loop-goal-test.true c.misses.ensures)

pub overflow_mul-sum : goal.overflow_mul-sum
overflow_mul-sum c = let e = squared_small _ _ _ _ _ 0 _ c.requires.goals c.loop-goal-test.true c.misses.ensures in omega (arith, mul-le-mul e e)

pub overflow_add-sum : goal.overflow_add-sum
overflow_add-sum c = let e = squared_small _ _ _ _ _ 0 _ c.requires.goals c.loop-goal-test.true c.misses.ensures in
    omega (arith, mul-le-mul e e, c.loop-goal.invariant.small, c.loop-goal-test.true, c.requires.goals.places, c.requires.goals.few, places_length c.args.goals.now)

pub loop-goal-preserved : goal.loop-goal-preserved
loop-goal-preserved c = squared_next _ _ _ _ _ _ _ c.requires.goals c.loop-goal-test.true c.misses.ensures c.loop-goal.invariant

pub returns : goal.returns
returns c = squared_end _ _ _ _ c.requires.goals _ _ (omega (arith, c.loop-goal-test.false, places_length c.args.goals.now)) c.loop-goal.invariant

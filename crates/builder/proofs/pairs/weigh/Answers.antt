-- `weigh` meets its contract: the best pair from the start is the best pair from here, with the best so far.
use mathlib.Core.Path.{refl, sym, ap, ◌∙◌, subst}
use Prim.Native.Nat.{◌≤◌}
use native.Mathlib.Nat.{sub-zero}
use native.Mathlib.Omega.{arith}
use lib.Bits.{xor_lt}
use lib.ListN.{length}
use Rattle.distance.specs.Base.{base_of, xor}
use Rattle.builder.specs.Rule.{best}
use Rattle.builder.specs.Kept.{look_up, places, rooms, lows, goals_with}
use Rattle.builder.proofs.KeptUp.{cost_le}
use Rattle.builder.proofs.Lists.{lines_length}
use Rattle.builder.proofs.Fields.{place_in, places_length, weighed_more, weighed_small}
use Rattle.builder.proofs.Goals.{Missed, missed-start}
use Rattle.builder.proofs.Choice.{along_end, pairs_more, pairs_end}
use Rattle.builder.proofs.Passing.{seen_start, along_passed, within, along_over, along_taken, along_left}
use Rattle.builder.proofs.pairs.weigh.Goals as goal
use Rattle.builder.proofs.pairs.weigh.Goals.{Else-seen-mask, else-improves, then-improves}

pub loop-i-init : goal.loop-i-init
loop-i-init c = record { best_is = simp sub-zero; seen_is = seen_start _ _ _ _ _ _ _ }

pub pairs-preserved-then-seen-mask : goal.pairs-preserved-then-seen-mask
pairs-preserved-then-seen-mask c = along_passed _ _ _ _ _ _ _ _ _ _ _ _ _ _ _ _ _ _ _ _ c.requires c.pairs.invariant c.pairs-test.true c.deeper-depth.ensures c.if-seen-mask.true

-- a pair that is weighed is not too deep
in-depth : (c : Else-seen-mask) → c.deeper-depth.result ≤ c.args.top
in-depth c = within _ _ _ _ _ _ _ _ _ _ _ _ _ _ _ _ _ _ _ _ c.requires c.pairs.invariant c.pairs-test.true c.deeper-depth.ensures c.if-seen-mask.false

pub invariant_of-line : goal.invariant_of-line
invariant_of-line c = record { byte = xor_lt 8 _ _ (c.requires.bytes _) (c.requires.bytes _); cheap = cost_le _ _ (omega (arith, in-depth (goal.at.invariant_of-line c).Else-seen-mask, c.requires.deep)) c.cost.ensures }

pub invariant_of-line-in-pairs : goal.invariant_of-line-in-pairs
invariant_of-line-in-pairs c = record { byte = xor_lt 8 _ _ (c.requires.bytes _) (c.requires.bytes _); cheap = cost_le _ _ (omega (arith, in-depth (goal.at.invariant_of-line-in-pairs c).Else-seen-mask, c.requires.deep)) c.cost.ensures }

pub loop-goal-init : goal.loop-goal-init
loop-goal-init c = subst (Missed _ _ _ _ 0) (sym c.requires.floor_is) (missed-start _ _ _ _ c.requires.goals)

pub misses-sum-requires-clause-in_table : goal.misses-sum-requires-clause-in_table
misses-sum-requires-clause-in_table c = place_in _ _ c.requires.goals

pub overflow_add-sum : goal.overflow_add-sum
overflow_add-sum c = omega (arith, weighed_small _ _ _ _ _ _ _ c.requires.goals c.loop-goal-test.true c.misses-sum.ensures c.loop-goal.invariant)

pub pairs-preserved-then-pick-sum : goal.pairs-preserved-then-pick-sum
pairs-preserved-then-pick-sum c =
    along_over _ _ _ _ _ _ _ _ _ _ _ _ _ _ _ _ _ _ _ _ c.requires c.pairs.invariant c.pairs-test.true c.deeper-depth.ensures c.if-seen-mask.false _ c.cost.ensures _ refl _ _ (weighed_more _ _ _ _ _ _ _ c.requires.goals c.loop-goal-test.true c.misses-sum.ensures c.loop-goal.invariant) c.if-pick-sum.true

pub loop-goal-preserved : goal.loop-goal-preserved
loop-goal-preserved c = weighed_more _ _ _ _ _ _ _ c.requires.goals c.loop-goal-test.true c.misses-sum.ensures c.loop-goal.invariant

pub pairs-preserved : goal.pairs-preserved
pairs-preserved c = let u = c.pairs in
    let end : length (places c.args.goals.now) ≤ c.loop-goal.goal-index = omega (arith, c.loop-goal-test.false, places_length c.args.goals.now) in
    elim c.if-improves.branch [
      | then-improves w ↦
          along_taken _ _ _ _ _ _ _ _ _ _ _ _ _ _ _ _ _ _ _ _ c.requires u.invariant c.pairs-test.true c.deeper-depth.ensures c.if-seen-mask.false _ c.cost.ensures _ refl _ _ _ end c.loop-goal.invariant c.square_sum-square.ensures _ _ _ _ (sym c.improves.ensures ∙ w.if-improves.true)
          (ap (λ p. p.total) w.pick-is) (ap (λ p. p.square) w.pick-is) (ap (λ p. p.pair.a) w.pick-is) (ap (λ p. p.pair.b) w.pick-is)
      | else-improves w ↦
          along_left _ _ _ _ _ _ _ _ _ _ _ _ _ _ _ _ _ _ _ _ c.requires u.invariant c.pairs-test.true c.deeper-depth.ensures c.if-seen-mask.false _ c.cost.ensures _ refl _ _ _ end c.loop-goal.invariant c.square_sum-square.ensures _ _ _ _ (sym c.improves.ensures ∙ w.if-improves.false)
          (ap (λ p. p.total) w.pick-is) (ap (λ p. p.square) w.pick-is) (ap (λ p. p.pair.a) w.pick-is) (ap (λ p. p.pair.b) w.pick-is)
    ]

pub loop-i-preserved : goal.loop-i-preserved
loop-i-preserved c = let a = c.args in
    let b = a.base.now in
    let i = c.loop-i in
    let u = c.pairs in
    let was = i.pick in
    let is = u.pick in
    let ls = base_of b.masks.now b.depths.now in
    let after = goals_with (look_up a.h.now ls) (places a.goals.now) (rooms a.goals.now) (lows a.goals.now) in
    record {
      best_is =
          i.invariant.best_is
          ∙ pairs_more ls after a.top (length b.masks.now) i.i (best was.total was.square (xor was.pair.a was.pair.b)) (best is.total is.square (xor is.pair.a is.pair.b))
          (lines_length b.masks.now b.depths.now c.requires.even) c.loop-i-test.true
          (u.invariant.best_is ∙ along_end ls after a.top (length b.masks.now) i.i u.j (best is.total is.square (xor is.pair.a is.pair.b)) c.pairs-test.false);
      seen_is = u.invariant.seen_is;
    }

pub returns : goal.returns
returns c = let a = c.args in
    let b = a.base.now in
    let i = c.loop-i in
    let ls = base_of b.masks.now b.depths.now in
    i.invariant.best_is ∙ pairs_end ls (goals_with (look_up a.h.now ls) (places a.goals.now) (rooms a.goals.now) (lows a.goals.now)) a.top (length b.masks.now) i.i (best i.pick.total i.pick.square (xor i.pick.pair.a i.pick.pair.b)) c.loop-i-test.false

-- `next_gate` meets its contract: the rows that were passed are not one gate away.
use mathlib.Core.Path.{◌≡◌, sym, ◌∙◌}
use Prim.Native.Nat.{◌≤◌, ◌<◌}
use native.Mathlib.Omega.{arith}
use borrow.Author.Tests.{eq-eqb, ne_eqb}
use lib.ListN.{length}
use Rattle.distance.specs.Base.{base_of}
use Rattle.builder.specs.Rule.{rows_of, sum, distances}
use Rattle.builder.proofs.Lists.{rows_length}
use Rattle.builder.proofs.Choice.{passed_start, passed_hit, passed_some, passed_more, passed_total, passed_best}
use Rattle.builder.proofs.Weighed.{gaps_length, gap_at, gap_small}
use Rattle.builder.proofs.pairs.next_gate.Goals as goal
use Rattle.builder.proofs.pairs.next_gate.Goals.{Start, In-loop-i, After-loop-i}

pub loop-i-init : goal.loop-i-init
loop-i-init c = passed_start _ _

-- a distance for each row
even : (c : Start) → length c.args.rows.now.masks.now ≡ length c.args.gaps.now
even c = gaps_length _ _ _ _ _ _ c.requires

here : (c : In-loop-i) → c.loop-i.i < length c.args.rows.now.masks.now
here c = omega (arith, c.loop-i-test.true, gaps_length _ _ _ _ _ _ c.requires)

pub offset_bounds-rows-i : goal.offset_bounds-rows-i
offset_bounds-rows-i c = omega (arith, here (goal.at.offset_bounds-rows-i c).In-loop-i)

pub bounds-rows-i : goal.bounds-rows-i
bounds-rows-i c = here (goal.at.bounds-rows-i c).In-loop-i

pub bounds-rows-i-then-gap-eq1 : goal.bounds-rows-i-then-gap-eq1
bounds-rows-i-then-gap-eq1 c = omega (arith, here (goal.at.bounds-rows-i-then-gap-eq1 c).In-loop-i, c.requires.paired)

pub returns-then-gap-eq1 : goal.returns-then-gap-eq1
returns-then-gap-eq1 c = let z = c.requires in
    let i = c.loop-i in
    let h = here (goal.at.returns-then-gap-eq1 c).In-loop-i in
    let g = gap_at _ _ _ _ _ _ z i.i h in
    record {
      left_to_do = sym (passed_some _ _ _ _ _ _ z.paired h g i.invariant c.if-gap-eq1.true);
      is = passed_hit _ _ _ _ _ _ z.paired h g i.invariant c.if-gap-eq1.true ∙ c.first_pair.ensures;
    }

pub overflow_add-sum : goal.overflow_add-sum
overflow_add-sum c = omega (arith, c.loop-i.invariant.small, here (goal.at.overflow_add-sum c).In-loop-i, c.requires.few, c.from-sum.ensures, gap_small _ _ _ _ _ _ c.requires c.loop-i.i)

pub loop-i-preserved : goal.loop-i-preserved
loop-i-preserved c = let i = c.loop-i in
    let h = here (goal.at.loop-i-preserved c).In-loop-i in
    rw c.from-sum.ensures
    (passed_more _ _ _ _ _ _ c.requires.paired h (gap_at _ _ _ _ _ _ c.requires i.i h) i.invariant c.if-gap-eq1.false (omega (arith, gap_small _ _ _ _ _ _ c.requires i.i)))

-- every row is passed, and the sum is that of all distances
past : (c : After-loop-i) → let r = c.args.rows.now in length (rows_of r.masks.now r.limits.now) ≤ c.loop-i.i
past c = let r = c.args.rows.now in omega (arith, rows_length r.masks.now r.limits.now c.requires.paired, gaps_length _ _ _ _ _ _ c.requires, c.loop-i-test.false)

total : (c : After-loop-i) → let b = c.args.base.now in let r = c.args.rows.now in sum (distances (base_of b.masks.now b.depths.now) (rows_of r.masks.now r.limits.now)) ≡ c.loop-i.sum
total c = passed_total _ _ _ _ (past c) c.loop-i.invariant

pub returns-then-sum-eq0 : goal.returns-then-sum-eq0
returns-then-sum-eq0 c = eq-eqb _ 0 (total (goal.at.returns-then-sum-eq0 c).After-loop-i ∙ c.if-sum-eq0.true)

pub returns : goal.returns
returns c = let at = (goal.at.returns c).After-loop-i in
    record {
      left_to_do = ne_eqb _ 0 (λ e. c.if-sum-eq0.false (sym (total at) ∙ e));
      is = passed_best _ _ _ _ (past at) c.loop-i.invariant ∙ c.best_pair.ensures;
    }

-- `take_input` meets its contract: the masks without the input stay, and those with it are done one by one.
use mathlib.Core.Path.{ap}
use Prim.Native.Nat.{ℕ, ◌+◌, ◌≤◌}
use native.Mathlib.Omega.{arith}
use lib.ListN.{get_or}
use Rattle.distance.proofs.Entries.{cost_is}
use Rattle.builder.proofs.KeptUp.{cost_le}
use Rattle.builder.proofs.MaskSums.{half_start, half_more, half_end, sum_most, top_most}
use Rattle.builder.proofs.first.take_input.Goals as goal
use Rattle.builder.proofs.first.take_input.Goals.{After-cost-c, In-loop-t}

-- what the input costs
cheap : (c : After-cost-c) → c.cost-c.result ≤ 32768
cheap c = cost_le _ c.cost-c.result (c.args.inputs.now.early c.args.i) c.cost-c.ensures

pub loop-t-init : goal.loop-t-init
loop-t-init c = half_start _ _ _ _ _ c.power-top.ensures c.requires.sums_below

-- the mask of the input
top_is : (c : In-loop-t) → c.power-top.result ≤ 128
top_is c = top_most c.args.i c.power-top.result (omega (arith, c.requires.an_input, c.args.inputs.now.few)) c.power-top.ensures

pub overflow_add-sums : goal.overflow_add-sums
overflow_add-sums c = let l = c.loop-t in
    let few : c.args.i ≤ 8 = omega (arith, c.requires.an_input, c.args.inputs.now.few) in
    let h = c.loop-t-test.true in
    omega (arith, cheap (goal.at.overflow_add-sums c).After-cost-c, sum_most c.args.i c.args.inputs.now.arrivals.now l.t (get_or l.sums l.t 0) few c.args.inputs.now.early (omega (arith, h, c.power-top.ensures)) (l.invariant.low l.t h))

pub loop-t-preserved : goal.loop-t-preserved
loop-t-preserved c = let l = c.loop-t in
    half_more c.args.i c.args.inputs.now.arrivals.now c.power-top.result (1048576 + c.cost-c.result) l.t l.sums (top_is (goal.at.loop-t-preserved c).In-loop-t) c.loop-t-test.true l.invariant

pub returns : goal.returns
returns c = let l = c.loop-t in
    let e = cost_is (get_or c.args.inputs.now.arrivals.now c.args.i 0) c.cost-c.result (c.args.inputs.now.early c.args.i) c.cost-c.ensures in
    half_end c.args.i c.args.inputs.now.arrivals.now c.power-top.result (1048576 + c.cost-c.result) l.t l.sums c.power-top.ensures (ap (λ (x : ℕ). 1048576 + x) e) (omega (arith, c.loop-t-test.false)) l.invariant

-- `first_table` meets its contract: the entries of the masks passed are in, and all others far.
use mathlib.Core.Path.{◌≡◌}
use Prim.Native.Nat.{ℕ, ◌/◌, ◌%◌, ◌^◌, ◌≤◌, ◌<◌}
use native.Mathlib.Omega.{arith}
use lib.ListN.{get_or}
use Rattle.distance.proofs.FirstTable.{first_start, first_next, first_holds}
use Rattle.distance.proofs.Weight.{small_arriving}
use Rattle.builder.specs.Kept.{mask_sum}
use Rattle.builder.proofs.MaskSums.{byte, sum_most, sum-weight, sum-load}
use Rattle.builder.proofs.first.first_table.Goals as goal
use Rattle.builder.proofs.first.first_table.Goals.{In-loop-t}

pub loop-t-init : goal.loop-t-init
loop-t-init c = first_start _ _

-- the mask at hand is below 2 ^ n, and a byte
here : (c : In-loop-t) → c.loop-t.t < 2 ^ c.args.inputs.now.n
here c = omega (arith, c.loop-t-test.true, c.power-t-end.ensures)

low : (c : In-loop-t) → c.loop-t.t < 256
low c = byte c.args.inputs.now.n c.loop-t.t c.args.inputs.now.few (here c)

-- its number
abbrev number : In-loop-t → ℕ
number c = get_or c.mask_sums-sums.result c.loop-t.t 0

number_is : (c : In-loop-t) → number c ≡ mask_sum c.args.inputs.now.n c.args.inputs.now.arrivals.now c.loop-t.t
number_is c = c.mask_sums-sums.ensures.at c.loop-t.t (here c)

most : (c : In-loop-t) → number c ≤ 8650752
most c = sum_most c.args.inputs.now.n c.args.inputs.now.arrivals.now c.loop-t.t (number c) c.args.inputs.now.few c.args.inputs.now.early (here c) (number_is c)

pub bounds-h-weight : goal.bounds-h-weight
bounds-h-weight c = omega (arith, most (goal.at.bounds-h-weight c).In-loop-t, low (goal.at.bounds-h-weight c).In-loop-t)

pub loop-t-preserved : goal.loop-t-preserved
loop-t-preserved c = let l = c.loop-t in
    let n = c.args.inputs.now.n in
    let ar = c.args.inputs.now.arrivals.now in
    let x = number (goal.at.loop-t-preserved c).In-loop-t in
    let w = sum-weight n ar l.t x c.args.inputs.now.few c.args.inputs.now.early (here (goal.at.loop-t-preserved c).In-loop-t) (number_is (goal.at.loop-t-preserved c).In-loop-t) in
    let v = sum-load n ar l.t x c.args.inputs.now.few c.args.inputs.now.early (here (goal.at.loop-t-preserved c).In-loop-t) (number_is (goal.at.loop-t-preserved c).In-loop-t) in
    first_next n ar l.t l.h (x / 1048576) (x % 1048576) c.args.inputs.now.few c.args.inputs.now.early (here (goal.at.loop-t-preserved c).In-loop-t) w v l.invariant

pub returns : goal.returns
returns c = let l = c.loop-t in
    let p = l.invariant in
    record {
      holds = first_holds c.args.inputs.now.n c.args.inputs.now.arrivals.now l.t l.h (omega (arith, c.loop-t-test.false, c.power-t-end.ensures)) p;
      bytes = small_arriving 8 c.args.inputs.now.n c.args.inputs.now.arrivals.now c.args.inputs.now.few;
      cap = p.cap;
    }

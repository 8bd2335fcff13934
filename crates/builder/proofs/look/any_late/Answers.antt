-- `any_late` meets its contract: no row that was passed is too late.
use mathlib.Core.Bool.{Bool}
use mathlib.Core.List.{List}
use mathlib.Core.Path.{◌≡◌, sym, ap, ◌∙◌}
use Prim.Native.Nat.{ℕ, ◌^◌, min}
use native.Mathlib.Omega.{arith}
use borrow.Author.Tests.{lt-ltb, le-ltb}
use lib.Dec.{ltb}
use lib.ListN.{length, get_or}
use Rattle.distance.specs.Base.{Shallow, load}
use Rattle.distance.specs.Table.{cost_at}
use Rattle.builder.specs.Rule.{row, rows_of}
use Rattle.builder.specs.Late.{too_late}
use Rattle.builder.proofs.Lists.{rows_length, rows_at}
use Rattle.builder.proofs.Refusals.{any_hit, any_miss, any_end}
use Rattle.builder.proofs.look.any_late.Goals as goal

-- what the code compares with is 2 ^ limit
at-limit : (ds : List ℕ) (i x : ℕ) → Shallow ds → x ≡ cost_at (get_or ds i 0) → x ≡ 2 ^ get_or ds i 0
at-limit ds i x shallow e = let m : min (get_or ds i 0) 20 ≡ get_or ds i 0 = omega (arith, shallow i) in e ∙ ap (λ (k : ℕ). 2 ^ k) m

-- the test of row i, from its mask and its limit
row-late : (n : ℕ) (ar ts ds : List ℕ) (i : ℕ) (x : Bool) → length ts ≡ length ds → ltb (2 ^ get_or ds i 0) (load n ar (get_or ts i 0)) ≡ x → too_late n ar (get_or (rows_of ts ds) i (row 0 0)) ≡ x
row-late n ar ts ds i x l e = ap (too_late n ar) (rows_at ts ds i l) ∙ e

pub returns-then-cost-sums_of : goal.returns-then-cost-sums_of
returns-then-cost-sums_of c = let l = c.loop-i in
    let a = c.args in
    let ts = a.rows.now in
    let ds = a.limits.now in
    let ar = a.inputs.now.arrivals.now in
    let h = c.loop-i-test.true in
    let e = at-limit ds l.i c.cost.result c.requires.shallow c.cost.ensures in
    let sums = c.sums_of.ensures in
    let t = lt-ltb (2 ^ get_or ds l.i 0) (load a.inputs.now.n ar (get_or ts l.i 0)) (omega (arith, e, sums.load_is, c.if-cost-sums_of.true)) in
    sym (l.invariant ∙ any_hit (too_late a.inputs.now.n ar) (rows_of ts ds) (row 0 0) l.i (omega (arith, h, rows_length ts ds c.requires.limits)) (row-late a.inputs.now.n ar ts ds l.i _ c.requires.limits t))

pub loop-i-preserved : goal.loop-i-preserved
loop-i-preserved c = let l = c.loop-i in
    let a = c.args in
    let ts = a.rows.now in
    let ds = a.limits.now in
    let ar = a.inputs.now.arrivals.now in
    let h = c.loop-i-test.true in
    let e = at-limit ds l.i c.cost.result c.requires.shallow c.cost.ensures in
    let sums = c.sums_of.ensures in
    let t = le-ltb (2 ^ get_or ds l.i 0) (load a.inputs.now.n ar (get_or ts l.i 0)) (omega (arith, e, sums.load_is, c.if-cost-sums_of.false)) in
    l.invariant ∙ any_miss (too_late a.inputs.now.n ar) (rows_of ts ds) (row 0 0) l.i (omega (arith, h, rows_length ts ds c.requires.limits)) (row-late a.inputs.now.n ar ts ds l.i _ c.requires.limits t)

pub returns : goal.returns
returns c = let a = c.args in
    sym (c.loop-i.invariant ∙ any_end (too_late a.inputs.now.n a.inputs.now.arrivals.now) (rows_of a.rows.now a.limits.now) (row 0 0) c.loop-i.i (omega (arith, c.loop-i-test.false, rows_length a.rows.now a.limits.now c.requires.limits)))

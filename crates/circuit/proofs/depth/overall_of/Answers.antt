-- `circuit::depth::overall_of` meets its contract: the greatest is that of the outputs passed and of those that are left. Assumes nothing.
use mathlib.Core.Path.{ap}
use Prim.Native.Nat.{ℕ}
use native.Mathlib.Omega.{arith}
use lib.ListN.{get_or}
use Rattle.circuit.proofs.Depths.{overall_next, overall_end}
use Rattle.circuit.proofs.depth.overall_of.Goals as goal

pub loop-line-preserved : goal.loop-line-preserved
loop-line-preserved c = let l = c.loop-line in
    let a = c.args in
    let next = overall_next a.each.now a.outputs.now l.line-index c.loop-line-test.true in
    let here = ap (λ (k : ℕ). get_or a.each.now k 0) c.line_index.ensures.0 in
    omega (arith, l.invariant, next, here, c.max-top.ensures)

pub returns : goal.returns
returns c = let a = c.args in
    omega (arith, c.loop-line.invariant, overall_end a.each.now a.outputs.now c.loop-line.line-index c.loop-line-test.false)

-- `outputs` meets its contract: the array begins with the lines named so far.
use mathlib.Core.List.{List, map}
use mathlib.Core.Path.{ap, ◌∙◌}
use Prim.Native.Nat.{ℕ}
use native.Mathlib.Omega.{arith}
use lib.ListN.{get_or, set}
use Rattle.circuit.specs.Sizes.{most_outputs}
use Rattle.circuit.proofs.Padding.{padded_next, padded-all}
use Rattle.distance.specs.Base.{base_of}
use Rattle.builder.specs.Rule.{row, rows_of, lowest}
use Rattle.builder.proofs.Steps.{lowest_byte, outs_at, outs_length}
use Rattle.builder.proofs.program.outputs.Goals as goal

pub overflow_cast-outs : goal.overflow_cast-outs
overflow_cast-outs c = let b = c.args.base.now in
    let r = c.args.rows.now in
    omega (arith, c.lowest.ensures, lowest_byte b.masks.now b.depths.now (row (get_or r.masks.now c.loop-i.i 0) (get_or r.limits.now c.loop-i.i 0)) b.even c.requires.few_lines)

pub loop-i-preserved : goal.loop-i-preserved
loop-i-preserved c = let b = c.args.base.now in
    let r = c.args.rows.now in
    let i = c.loop-i.i in
    let n = outs_length b.masks.now b.depths.now r.masks.now r.limits.now r.paired in
    ap (λ (l : List ℕ). set l i c.lowest.result) c.loop-i.invariant
    ∙ padded_next most_outputs 0 (map (lowest (base_of b.masks.now b.depths.now)) (rows_of r.masks.now r.limits.now)) i c.lowest.result (omega (arith, n, c.loop-i-test.true)) (omega (arith, n, r.few))
    (c.lowest.ensures ∙ outs_at b.masks.now b.depths.now r.masks.now r.limits.now i r.paired c.loop-i-test.true)

pub returns : goal.returns
returns c = let b = c.args.base.now in
    let r = c.args.rows.now in
    c.loop-i.invariant
    ∙ padded-all most_outputs 0 (map (lowest (base_of b.masks.now b.depths.now)) (rows_of r.masks.now r.limits.now)) c.loop-i.i (omega (arith, c.loop-i-test.false, outs_length b.masks.now b.depths.now r.masks.now r.limits.now r.paired))

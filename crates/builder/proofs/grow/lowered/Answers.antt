-- `lowered` meets its contract: the array begins with the distances made so far.
use mathlib.Core.List.{List}
use mathlib.Core.Path.{sym, ap, ◌∙◌}
use Prim.Native.Nat.{ℕ}
use native.Mathlib.Omega.{arith}
use lib.ListN.{set}
use Rattle.circuit.specs.Sizes.{most_outputs}
use Rattle.circuit.proofs.Padding.{padded_next, padded-all}
use Rattle.builder.specs.Kept.{misses as misses_of, next_gaps}
use Rattle.builder.proofs.Goals.{next_length, next_at}
use Rattle.builder.proofs.grow.lowered.Goals as goal

pub loop-i-preserved : goal.loop-i-preserved
loop-i-preserved c = let a = c.args in
    let r = a.rows.now in
    let i = c.loop-i.i in
    let f = misses_of a.h.now a.line.mask a.line.cost in
    let n = next_length f a.gaps.now r.masks.now r.limits.now c.requires.rows c.requires.limits_too in
    ap (λ (l : List ℕ). set l i c.lower.result) c.loop-i.invariant
    ∙ padded_next most_outputs 0 (next_gaps f a.gaps.now r.masks.now r.limits.now) i c.lower.result (omega (arith, n, c.loop-i-test.true)) (omega (arith, n, c.requires.few))
    (c.lower.ensures ∙ sym (next_at f a.gaps.now r.masks.now r.limits.now i c.requires.rows c.requires.limits_too c.loop-i-test.true))

pub returns : goal.returns
returns c = let a = c.args in
    let r = a.rows.now in
    let f = misses_of a.h.now a.line.mask a.line.cost in
    c.loop-i.invariant
    ∙ padded-all most_outputs 0 (next_gaps f a.gaps.now r.masks.now r.limits.now) c.loop-i.i (omega (arith, c.loop-i-test.false, next_length f a.gaps.now r.masks.now r.limits.now c.requires.rows c.requires.limits_too))

-- `first_gaps` meets its contract: a row that is not 0 has a weight of 1 or more.
use mathlib.Core.List.{List, map}
use mathlib.Core.Path.{◌≡◌, sym, ap, ◌∙◌}
use Prim.Native.Nat.{ℕ, ◌-◌}
use native.Mathlib.Omega.{arith}
use lib.ListN.{get_or, set, length-map}
use Rattle.circuit.specs.Sizes.{most_outputs}
use Rattle.circuit.proofs.Padding.{padded_next, padded-all}
use Rattle.circuit.proofs.Lists.{map_at}
use Rattle.distance.specs.Base.{weight}
use Rattle.distance.proofs.Weight.{no_weight, weight-le}
use Rattle.builder.proofs.program.first_gaps.Goals as goal

pub overflow_sub-gaps : goal.overflow_sub-gaps
overflow_sub-gaps c = let i = c.loop-i.i in
    let e : weight c.args.inputs.now.n (get_or c.args.rows.now i 0) ≡ 0 → ⊥ = λ z. c.requires.some i c.loop-i-test.true (no_weight _ _ (c.requires.below i) z) in
    omega (arith, c.sums_of.ensures.weight_is, e)

pub overflow_cast-gaps : goal.overflow_cast-gaps
overflow_cast-gaps c = omega (arith, c.sums_of.ensures.weight_is, weight-le _ _ (c.requires.below c.loop-i.i), c.requires.inputs)

pub loop-i-preserved : goal.loop-i-preserved
loop-i-preserved c = let a = c.args in
    let l = c.loop-i in
    let h = c.loop-i-test.true in
    let f : ℕ → ℕ = λ t. weight a.inputs.now.n t - 1 in
    let n = length-map a.rows.now f in
    let v = c.sums_of.result.weight - 1 in
    ap (λ (x : List ℕ). set x l.i v) l.invariant ∙ padded_next most_outputs 0 (map f a.rows.now) l.i v (omega (arith, n, h)) (omega (arith, n, c.requires.few)) (ap (λ (x : ℕ). x - 1) c.sums_of.ensures.weight_is ∙ sym (map_at f a.rows.now 0 l.i h))

pub returns : goal.returns
returns c = let a = c.args in
    let f : ℕ → ℕ = λ t. weight a.inputs.now.n t - 1 in
    c.loop-i.invariant ∙ padded-all most_outputs 0 (map f a.rows.now) c.loop-i.i (omega (arith, c.loop-i-test.false, length-map a.rows.now f))

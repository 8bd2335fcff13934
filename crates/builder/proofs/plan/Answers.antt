-- `plan` meets its contract: it is the plan of arrivals 0 and one limit; out of range, there are no such lists to lend.
use mathlib.Core.List.{List}
use mathlib.Core.Path.{sym, ap, ap₂, ◌∙◌}
use Prim.Native.Nat.{ℕ}
use native.Mathlib.Omega.{arith}
use lib.ListN.{length, replicate, length-replicate}
use lib.Seq.{length-take-le}
use Rattle.circuit.specs.Sizes.{most_inputs, most_outputs}
use Rattle.circuit.proofs.Shapes.{Shaped, shape_is}
use Rattle.builder.specs.Late.{late_plan_of}
use Rattle.builder.proofs.AsLate.{same_taken, plan_late, shape_plan}
use Rattle.builder.proofs.plan.Goals as goal
use Rattle.builder.proofs.plan.Goals.{Else-not-is_shape}

in-range : (c : Else-not-is_shape) → Shaped c.args.n (length c.args.rows.now) 0
in-range c = shape_is _ _ _ (sym c.is_shape.ensures ∙ c.if-not-is_shape.false)

pub slice_bounds-arrivals-end : goal.slice_bounds-arrivals-end
slice_bounds-arrivals-end c = omega (arith, (in-range (goal.at.slice_bounds-arrivals-end c).Else-not-is_shape).n_most, length-replicate {A = ℕ} most_inputs 0)

pub slice_bounds-plan_late-end : goal.slice_bounds-plan_late-end
slice_bounds-plan_late-end c = sym (length-take-le _ _ (omega (arith, (in-range (goal.at.slice_bounds-plan_late-end c).Else-not-is_shape).n_most, length-replicate {A = ℕ} most_inputs 0)))

pub slice_bounds-limits-end : goal.slice_bounds-limits-end
slice_bounds-limits-end c = omega (arith, (in-range (goal.at.slice_bounds-limits-end c).Else-not-is_shape).m_most, length-replicate most_outputs c.limit_of-limits.result)

pub slice_bounds-plan_late-end-2 : goal.slice_bounds-plan_late-end-2
slice_bounds-plan_late-end-2 c = sym (length-take-le _ _ (omega (arith, (in-range (goal.at.slice_bounds-plan_late-end-2 c).Else-not-is_shape).m_most, length-replicate most_outputs c.limit_of-limits.result)))

pub returns : goal.returns
returns c = let a = c.args in
    let r = in-range (goal.at.returns c).Else-not-is_shape in
    let m = length a.rows.now in
    let limit = c.limit_of-limits in
    c.plan_late.ensures
    ∙ ap₂ (λ (x y : List ℕ). late_plan_of a.n x a.rows.now y) (same_taken a.n most_inputs 0 r.n_most) (same_taken m most_outputs limit.result r.m_most ∙ ap (replicate m) limit.ensures)
    ∙ sym (plan_late a.n a.rows.now a.d)

pub returns-then-not-is_shape : goal.returns-then-not-is_shape
returns-then-not-is_shape c = sym (shape_plan c.args.n c.args.rows.now c.args.d (sym c.is_shape.ensures ∙ c.if-not-is_shape.true))

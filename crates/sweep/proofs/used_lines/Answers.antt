-- `sweep::used_lines` meets its contract. The invariant: the marks are what is reached going back to gate k. Assumes nothing.
use mathlib.Core.Path.{◌≡◌, refl, ap, ◌∙◌}
use mathlib.Core.Bool.{false}
use lib.ListN.{get_or}
use Prim.Native.Nat.{ℕ, suc, ◌+◌, ◌-◌}
use native.Mathlib.Omega.{arith}
use Rattle.circuit.specs.Structs.{line_in}
use Rattle.circuit.proofs.Operands.{second_line}
use Rattle.sweep.specs.Parts.{marked}
use Rattle.sweep.proofs.Marks.{Reached, reached-none, reached_next, reached-all}
use Rattle.sweep.proofs.used_lines.Goals as goal

pub loop-k-init : goal.loop-k-init
loop-k-init c = c.named-marks.ensures ∙ reached-none c.args.c

pub loop-k-preserved : goal.loop-k-preserved
loop-k-preserved c = let a = c.args.c in
    let k = c.loop-k.k - 1 in
    let z : c.loop-k.k ≡ suc k = omega arith in
    reached_next a k c.loop-k.marks (omega arith) (omega arith) (c.loop-k.invariant ∙ ap (λ (j : ℕ). marked (Reached a j)) z) c.line_index-x.result c.line_index-y.result
    c.line_index-x.ensures.1 c.line_index-y.ensures.1 c.line_index-x.ensures.0 (c.line_index-y.ensures.0 ∙ ap line_in c.second_read.ensures ∙ second_line _ _ _)
    (get_or c.loop-k.marks (a.n + k) false) _ _ refl refl refl

pub returns : goal.returns
returns c = let a = c.args.c in
    let e : c.loop-k.k ≡ 0 = omega arith in
    c.loop-k.invariant ∙ ap (λ (j : ℕ). marked (Reached a j)) e ∙ reached-all a

-- `report::lowest_output` meets its contract. The invariant: the search from j on finds what the whole one does. Assumes nothing.
use borrow.Author.Tests.{eq-eqb, ne_eqb}
use native.Mathlib.Omega.{arith}
use mathlib.Core.Path.{◌≡◌, ap, ap₂, ◌∙◌, sym}
use mathlib.Core.Bool.{not}
use Prim.Native.Nat.{ℕ, ◌-◌}
use lib.Dec.{eqb}
use lib.ListN.{get_or}
use Rattle.circuit.specs.Gate.{no_words, value_in}
use Rattle.bench.specs.State.{least}
use Rattle.report.proofs.Smallest.{least_stop, least_next, least_end}
use Rattle.report.proofs.lowest_output.Invariants.{bad}
use Rattle.report.proofs.lowest_output.Goals as goal
use Rattle.report.proofs.lowest_output.Goals.{After-value_in-in-loop-j}

-- what the two calls found
found : (c : After-value_in-in-loop-j) → let a = c.args in
    not (eqb c.value_in.result c.value_in-in-loop-j.result) ≡ bad a.b.now a.x c.loop-j.j
found c =
    let b = c.args.b.now in
    let x = c.args.x in
    let e = c.value_in.ensures ∙ ap (λ (l : ℕ). value_in (get_or b.values l no_words) x) c.line_index-line.ensures.0 in
    ap₂ (λ (u v : ℕ). not (eqb u v)) e c.value_in-in-loop-j.ensures

pub loop-j-init : goal.loop-j-init
loop-j-init c = let a = c.args in let e : a.b.now.m - 0 ≡ a.b.now.m = omega arith in ap (λ (k : ℕ). least (bad a.b.now a.x) k 0) e

pub returns-then-value_in : goal.returns-then-value_in
returns-then-value_in c = let a = c.args in
    let t = sym (found (goal.at.returns-then-value_in c).After-value_in-in-loop-j) ∙ ap not (ne_eqb _ _ c.if-value_in.true) in
    sym (least_stop (bad a.b.now a.x) a.b.now.m c.loop-j.j (omega arith) t) ∙ c.loop-j.invariant

pub loop-j-preserved : goal.loop-j-preserved
loop-j-preserved c = let a = c.args in
    let t = sym (found (goal.at.loop-j-preserved c).After-value_in-in-loop-j) ∙ ap not (eq-eqb _ _ c.if-value_in.false) in
    sym (least_next (bad a.b.now a.x) a.b.now.m c.loop-j.j (omega arith) t) ∙ c.loop-j.invariant

pub returns : goal.returns
returns c = let a = c.args in
    let e : a.b.now.m ≡ c.loop-j.j = omega arith in
    e ∙ sym (least_end (bad a.b.now a.x) a.b.now.m c.loop-j.j (omega arith)) ∙ c.loop-j.invariant

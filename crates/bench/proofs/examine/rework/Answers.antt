-- `rework`: the loop keeps `Turn`; a turn stores a line that is reached and leaves one that is not.
use Rattle.std.specs.Prelude.{Ok}
use Rattle.circuit.specs.Rules.{Answer, done}
use borrow.Author.Rules.{rules}
use mathlib.Core.Path.{◌≡◌, sym, ◌∙◌, subst, ap}
use Prim.Native.Nat.{suc, ◌≤◌, ◌<◌, max}
use native.Mathlib.Nat.{mod-eq_of_lt}
use native.Mathlib.Omega.{arith}
use Rattle.circuit.specs.Sizes.{most_inputs, most_gates}
use Rattle.circuit.specs.Structs.{line_in}
use Rattle.circuit.proofs.Operands.{second_line}
use Rattle.bench.specs.declared.Bench.{Bench}
use Rattle.bench.specs.declared.Edited.{Edited}
use Rattle.bench.specs.Parts.{regated, Reexamined, GateSet}
use Rattle.bench.proofs.Regating.{counted}
use Rattle.bench.proofs.Turn.{start, hit, miss, done as finish, test_is, moved}
use Rattle.bench.proofs.examine.rework.Goals as goal
use Rattle.bench.proofs.examine.rework.Goals.{In-Ok, Start, else-is_reached, then-is_reached}

-- the bench with the gate set, as the promise has it, and as the loop finds it: with as many gates as before
abbrev set-gate : (c : Start) → Bench
set-gate c = regated c.args.b c.args.k c.args.kind c.args.first c.args.second

abbrev changed : (c : Start) → Bench
changed c = counted (set-gate c) c.args.b.g

-- what is asked of an accepted edit
ok : (c : In-Ok) → let a = c.args in (a.b.n ≤ most_inputs) × (a.b.g ≤ most_gates) × (a.k < a.b.g)
ok c = c.requires c.in-Ok.is

pub loop-j-init : goal.loop-j-init
loop-j-init c = start (changed (goal.at.loop-j-init c).Start) c.args.k (ok (goal.at.loop-j-init c).In-Ok).0 (ok (goal.at.loop-j-init c).In-Ok).1 (ok (goal.at.loop-j-init c).In-Ok).2

pub loop-j-preserved : goal.loop-j-preserved
loop-j-preserved c = let k = c.args.k in
    let n_most = c.loop-j.invariant.n_most in
    let g_most = c.loop-j.invariant.g_most in
    let h : c.loop-j.j < c.args.b.g = omega arith in
    let ey = c.line_index-y.ensures.0 ∙ ap line_in c.second_read.ensures ∙ second_line _ _ _ in
    let is = test_is (changed (goal.at.loop-j-preserved c).Start) k n_most g_most h c.loop-j.invariant c.line_index-x.ensures.0 ey in
    elim c.if-is_reached.branch [
      | then-is_reached w ↦ moved (search rules) (search rules) (search rules) (search rules)
          (hit (changed (goal.at.loop-j-preserved c).Start) k n_most g_most h c.loop-j.invariant (sym is ∙ sym c.is_reached.ensures ∙ w.if-is_reached.true) c.line_index-x.ensures.0 ey
          (record { depth = w.deeper.ensures; and = w.and_deeper.ensures; value = w.eval_gate-words.ensures }) (w.low16.ensures ∙ mod-eq_of_lt (omega (arith, n_most, g_most))))
      | else-is_reached w ↦ moved (search rules) (search rules) (search rules) (search rules)
          (miss (changed (goal.at.loop-j-preserved c).Start) k n_most g_most h c.loop-j.invariant (sym is ∙ sym c.is_reached.ensures ∙ w.if-is_reached.false))
    ]

pub returns-after-loop-j : goal.returns-after-loop-j
returns-after-loop-j c = let a = c.args in
    let o = ok (goal.at.returns-after-loop-j c).In-Ok in
    let e : a.b.g ≡ max a.b.g (suc a.k) = omega (arith, o) in
    let given : Answer → Edited = λ x. record { bench = c.loop-j.c; edit = Ok (record { lines = c.loop-j.lines; count = c.loop-j.count }) } in
    subst (λ (x : Answer). GateSet x a.b a.k a.kind a.first a.second (given x)) (sym c.in-Ok.is)
    (subst (λ (z : Bench). Reexamined z a.k c.loop-j.c (given done).edit) (λ i. counted (set-gate (goal.at.returns-after-loop-j c).Start) (e i))
    (finish (changed (goal.at.returns-after-loop-j c).Start) a.k c.loop-j.invariant.n_most c.loop-j.invariant.g_most o.2 (omega arith) c.loop-j.invariant))

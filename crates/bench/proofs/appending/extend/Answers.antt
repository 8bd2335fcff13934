-- `extend`: one turn of what replacing a gate does, at the first gate that is not there. Assumes nothing.
use Rattle.std.specs.Prelude.{Ok}
use Rattle.circuit.specs.Rules.{Answer, done}
use mathlib.Core.Path.{◌≡◌, sym, ◌∙◌, subst, ap}
use Prim.Native.Nat.{suc, ◌+◌, ◌≤◌, ◌<◌, max}
use native.Mathlib.Nat.{mod-eq_of_lt}
use native.Mathlib.Omega.{arith}
use lib.ListN.{set, replicate}
use Rattle.circuit.specs.Sizes.{most_inputs, most_gates, most_lines}
use Rattle.circuit.specs.Structs.{line_in}
use Rattle.circuit.proofs.Operands.{second_line}
use Rattle.bench.specs.declared.Bench.{Bench}
use Rattle.bench.specs.declared.Edited.{Edited}
use Rattle.bench.specs.Parts.{regated, put, Reexamined, GateSet}
use Rattle.bench.proofs.Regating.{counted}
use Rattle.bench.proofs.Turn.{start, hit, done as finish, own_hit}
use Rattle.bench.proofs.appending.extend.Goals as goal
use Rattle.bench.proofs.appending.extend.Goals.{In-Ok}

-- what is asked of an accepted gate
ok : (c : In-Ok) → let a = c.args in (a.b.n ≤ most_inputs) × (a.b.g < most_gates)
ok c = c.requires c.in-Ok.is

pub returns-in-Ok : goal.returns-in-Ok
returns-in-Ok c = let a = c.args in
    let k = a.b.g in
    let set-gate = regated a.b k a.kind a.first a.second in
    let B = counted set-gate (k + 1) in
    let o = ok (goal.at.returns-in-Ok c).In-Ok in
    let g_most : k + 1 ≤ most_gates = omega (arith, o) in
    let there : k < k + 1 = omega arith in
    let ey = c.line_index-y.ensures.0 ∙ ap line_in c.second_read.ensures ∙ second_line _ _ _ in
    let turn =
    hit B k o.0 g_most there (start B k o.0 g_most there) (own_hit B k o.0 g_most) c.line_index-x.ensures.0 ey
    (record { depth = c.deeper.ensures; and = c.and_deeper.ensures; value = c.eval_gate-words.ensures }) (c.low16.ensures ∙ mod-eq_of_lt (omega (arith, o))) in
    let e : k + 1 ≡ max k (suc k) = omega arith in
    let given : Answer → Edited = λ z. record {
      bench = put B (B.n + k) c.deeper.result c.and_deeper.result c.eval_gate-words.result;
      edit = Ok (record { lines = set (replicate most_lines 0) 0 c.low16.result; count = 1 });
    } in
    subst (λ (z : Answer). GateSet z a.b k a.kind a.first a.second (given z)) (sym c.in-Ok.is)
    (subst (λ (z : Bench). Reexamined z k (given done).bench (given done).edit) (λ i. counted set-gate (e i)) (finish B k o.0 g_most there (omega arith) turn))

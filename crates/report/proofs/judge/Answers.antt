-- `report::judge` meets its contract: each way is decided by the first test that holds. Assumes nothing.
use borrow.Author.Rules.{rules}
use native.Mathlib.Omega.{arith}
use mathlib.Core.Path.{◌≡◌, ap, ◌∙◌}
use Prim.Native.Nat.{ℕ, ◌≤◌, ◌*◌, ◌%◌, ◌^◌}
use lib.Dec.{eqb}
use lib.Pow.{pow_mono}
use Rattle.circuit.specs.declared.Words.{Words}
use Rattle.circuit.specs.Gate.{value_in}
use Rattle.circuit.specs.Sizes.{most_inputs, most_values}
use Rattle.targets.proofs.Fitting.{shift_is}
use Rattle.bench.specs.declared.Verdict.TheVariants.{Wrong}
use Rattle.bench.specs.State.{least}
use Rattle.report.specs.Judged.{judged_at, judged}
use Rattle.report.proofs.Judging.{is_wrong, over_gates, over_depth, over_ands, passes}
use Rattle.report.proofs.judge.Goals as goal
use Rattle.report.proofs.judge.Goals.{After-lowest_input-x, Else-from-b, Else-b-from, Else-x-inputs}

-- from the input value that was found to the smallest that there is
found : (c : After-lowest_input-x) → let a = c.args in judged_at a.b.now a.depth a.ands c.lowest_input-x.result ≡ judged a.b.now a.depth a.ands
unfolding judged
found c =
    let a = c.args in
    ap (judged_at a.b.now a.depth a.ands)
    (c.lowest_input-x.ensures ∙ ap (λ (w : Words). least (λ (x : ℕ). eqb (value_in w x) 1) most_values 0) c.differing.ensures)

-- how many input values there are
inputs : (n : ℕ) → n ≤ most_inputs → ((1 * 2 ^ n) % 2 ^ 64 ≡ 2 ^ n) × (2 ^ n ≤ most_values)
inputs n h = (shift_is n (omega arith), pow_mono {i = n} {j = most_inputs} h)

pub lowest_output-requires : goal.lowest_output-requires
lowest_output-requires c = let p = inputs c.args.b.now.n c.requires.0 in (omega arith, search rules)

pub returns-then-x-inputs : goal.returns-then-x-inputs
returns-then-x-inputs c = let a = c.args in
    let r = c.lowest_input-x.result in
    let p = inputs c.args.b.now.n c.requires.0 in
    ap (λ (j : ℕ). Wrong (record { input = r; output = j })) c.lowest_output.ensures
    ∙ is_wrong a.b.now a.depth a.ands r (omega arith) ∙ found (goal.at.returns-then-x-inputs c).After-lowest_input-x

-- what each test showed that did not hold: no output differs,
right : (c : Else-x-inputs) → 2 ^ c.args.b.now.n ≤ c.lowest_input-x.result
right c = let p = inputs c.args.b.now.n c.requires.0 in omega arith

-- the gates are within their limit,
few : (c : Else-from-b) → let b = c.args.b.now in b.g ≤ b.max_gates
few c = let e = c.from.ensures in omega arith

-- and the depth is
flat : (c : Else-b-from) → let a = c.args in a.depth ≤ a.b.now.max_depth
flat c = let e = c.from-2.ensures in omega arith

pub returns-then-from-b : goal.returns-then-from-b
returns-then-from-b c = let a = c.args in
    let t = goal.at.returns-then-from-b c in
    let l = c.from.ensures in
    over_gates a.b.now a.depth a.ands c.lowest_input-x.result (right t.Else-x-inputs) (omega arith) ∙ found t.After-lowest_input-x

pub returns-then-b-from : goal.returns-then-b-from
returns-then-b-from c = let a = c.args in
    let t = goal.at.returns-then-b-from c in
    let e = c.from-2.ensures in
    over_depth a.b.now a.depth a.ands c.lowest_input-x.result (right t.Else-x-inputs) (few t.Else-from-b) (omega arith) ∙ found t.After-lowest_input-x

pub returns-then-b-from-2 : goal.returns-then-b-from-2
returns-then-b-from-2 c = let a = c.args in
    let t = goal.at.returns-then-b-from-2 c in
    let e = c.from-3.ensures in
    over_ands a.b.now a.depth a.ands c.lowest_input-x.result (right t.Else-x-inputs) (few t.Else-from-b) (flat t.Else-b-from) (omega arith) ∙ found t.After-lowest_input-x

pub returns : goal.returns
returns c = let a = c.args in
    let t = goal.at.returns c in
    let e = c.from-3.ensures in
    passes a.b.now a.depth a.ands c.lowest_input-x.result (right t.Else-x-inputs) (few t.Else-from-b) (flat t.Else-b-from) (omega arith) ∙ found t.After-lowest_input-x

-- `drawing::outputs::top` meets its contract: the largest so far, and those that are left. Assumes nothing.
use mathlib.Core.Path.{◌≡◌, ap, sym, ◌∙◌}
use native.Mathlib.Nat.{sub-zero}
use Prim.Native.Nat.{ℕ, max, ◌<◌}
use native.Mathlib.Omega.{arith}
use borrow.Author.Rules.{rules}
use lib.ListN.{length, take}
use lib.Seq.{length-take-le}
use Rattle.std.proofs.lemmas.List.{get_or-take}
use Rattle.formula.specs.Names.{few_names}
use Rattle.drawing.proofs.Searching.{top_end, top_on, larger}
use Rattle.drawing.proofs.outputs.top.Goals as goal
use Rattle.drawing.proofs.outputs.top.Goals.{After-len}

-- as many numbers as there are names are looked at
count : (c : After-len) → length (take c.len.result c.args.numbers.now) ≡ few_names c.args.names.now.n
count c = let long : length c.args.numbers.now ≡ 512 = search rules in length-take-le _ _ (omega (arith, c.len.ensures.most, long)) ∙ c.len.ensures.is

pub loop-x-init : goal.loop-x-init
loop-x-init c = rw sub-zero

pub loop-x-preserved : goal.loop-x-preserved
loop-x-preserved c = let i = c.loop-x.x-index in
    let k = count (goal.at.loop-x-preserved c).After-len in
    let h : i < few_names c.args.names.now.n = omega (arith, k, c.loop-x-test.true) in
    let e = get_or-take c.len.result c.args.numbers.now i 0 (omega (arith, c.len.ensures.is, h)) in
    c.loop-x.invariant ∙ top_on _ _ _ _ _ h (c.max-t.ensures ∙ ap (λ (x : ℕ). max c.loop-x.t x) e ∙ larger _ _)

pub returns : goal.returns
returns c = sym (c.loop-x.invariant ∙ top_end _ _ _ _ (omega (arith, count (goal.at.returns c).After-len, c.loop-x-test.false)))

-- `sweep::named` meets its contract. The invariant: the marks are the lines that the outputs so far name. Assumes nothing.
use mathlib.Core.Path.{◌≡◌, ap, sym, ◌∙◌}
use mathlib.Core.Bool.{Bool, true}
use mathlib.Core.List.{List}
use Prim.Native.Nat.{ℕ}
use native.Mathlib.Omega.{arith}
use borrow.Author.Rules.{rules}
use lib.ListN.{length, take, set}
use lib.Seq.{length-take-le}
use Rattle.std.proofs.lemmas.List.{get_or-take}
use Rattle.circuit.specs.Lines.{upto}
use Rattle.circuit.specs.Structs.{line_in, out_of}
use Rattle.circuit.proofs.Upto.{upto-suc}
use Rattle.sweep.specs.Parts.{marked}
use Rattle.sweep.proofs.Marks.{marked-none, marked_snoc}
use Rattle.sweep.proofs.named.Goals as goal
use Rattle.sweep.proofs.named.Goals.{Start}

-- as many outputs as there are are looked at
count : (c : Start) → let a = c.args.c in length (take a.m a.outputs) ≡ a.m
count c = let long : length c.args.c.outputs ≡ 32 = search rules in length-take-le _ _ (omega (arith, c.requires))

pub loop-line-init : goal.loop-line-init
unfolding upto
loop-line-init c = marked-none

pub loop-line-preserved : goal.loop-line-preserved
loop-line-preserved c = let a = c.args.c in
    let l = c.line_index in
    let i = c.loop-line.line-index in
    let e : l.result ≡ out_of a i = l.ensures.0 ∙ ap line_in (get_or-take a.m a.outputs i 0 (omega (arith, count (goal.at.loop-line-preserved c).Start, c.loop-line-test.true))) in
    ap (λ (l : List Bool). set l c.line_index.result true) c.loop-line.invariant
    ∙ marked_snoc (upto (out_of a) i) l.result (out_of a i) l.ensures.1 e
    ∙ ap marked (sym (upto-suc (out_of a) i))

pub returns : goal.returns
returns c = let a = c.args.c in
    let e : c.loop-line.line-index ≡ a.m = omega (arith, count (goal.at.returns c).Start, c.loop-line-test.false) in
    c.loop-line.invariant ∙ ap (λ (i : ℕ). marked (upto (out_of a) i)) e

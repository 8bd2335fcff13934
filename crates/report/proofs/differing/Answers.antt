-- `report::differing` meets its contract. The invariant: the words of the outputs so far are joined. Assumes nothing.
use native.Mathlib.Omega.{arith}
use mathlib.Core.Path.{◌≡◌, refl, ap, ap₂, ◌∙◌}
use Prim.Native.Nat.{ℕ}
use lib.ListN.{get_or}
use Rattle.circuit.specs.Gate.{Kind, words_of, no_words}
use Rattle.report.specs.Judged.{differences}
use Rattle.report.proofs.Differences.{differences-suc}
use Rattle.report.proofs.differing.Goals as goal

pub loop-j-init : goal.loop-j-init
unfolding differences
loop-j-init c = refl

pub loop-j-preserved : goal.loop-j-preserved
loop-j-preserved c = let b = c.args.b.now in
    let j = c.loop-j.j in
    let x = ap (λ (l : ℕ). words_of Kind.XOR (get_or b.values l no_words) (get_or b.wanted j no_words)) c.line_index-line.ensures.0 in
    c.eval_gate-found.ensures ∙ ap₂ (words_of Kind.OR) c.loop-j.invariant (c.eval_gate.ensures ∙ x) ∙ differences-suc b.values b.outputs b.wanted j

pub returns : goal.returns
returns c = let b = c.args.b.now in
    let e : c.loop-j.j ≡ b.m = omega arith in
    c.loop-j.invariant ∙ ap (differences b.values b.outputs b.wanted) e

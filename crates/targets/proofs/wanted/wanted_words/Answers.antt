-- `targets::wanted::wanted_words` meets its contract. The invariant: the outputs so far are filled in. Assumes nothing.
use native.Mathlib.Omega.{arith}
use mathlib.Core.Path.{◌≡◌, refl, ap₂, ◌∙◌}
use mathlib.Core.List.{List}
use Prim.Native.Nat.{ℕ, min}
use lib.ListN.{set}
use Rattle.circuit.specs.declared.Words.{Words}
use Rattle.circuit.specs.Sizes.{most_outputs}
use Rattle.circuit.specs.Gate.{no_words}
use Rattle.circuit.specs.Lines.{upto, padded}
use Rattle.circuit.proofs.Upto.{upto_put}
use Rattle.targets.specs.Wanted.{wanted_of, wanted_in}
use Rattle.targets.proofs.wanted.wanted_words.Goals as goal
use Rattle.targets.proofs.wanted.wanted_words.Invariants.{want}

pub loop-j-init : goal.loop-j-init
unfolding upto
loop-j-init c = refl

pub loop-j-preserved : goal.loop-j-preserved
loop-j-preserved c = let a = c.args in
    let j = c.loop-j.j in
    ap₂ (λ (l : List Words) (w : Words). set l j w) c.loop-j.invariant c.wanted_by.ensures
    ∙ upto_put most_outputs no_words (want a.only a.target.now c.min-count.result) j _ refl (omega arith)

pub returns : goal.returns
unfolding wanted_in wanted_of
returns c = let a = c.args in
    let k = min a.m most_outputs in
    let q : c.min-count.result ≡ k = omega arith in
    let e : c.loop-j.j ≡ min k most_outputs = omega arith in
    c.loop-j.invariant ∙ ap₂ (λ (q j : ℕ). padded most_outputs no_words (upto (want a.only a.target.now q) j)) q e

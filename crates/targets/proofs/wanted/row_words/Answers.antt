-- `targets::wanted::row_words` meets its contract. Assumes nothing.
use mathlib.Core.Path.{ap, ◌∙◌, sym}
use mathlib.Core.Bool.{Bool, cond}
use borrow.Author.Tests.{eq-eqb, ne_eqb}
use Rattle.circuit.specs.declared.Words.{Words}
use Rattle.circuit.specs.Sizes.{most_inputs}
use Rattle.circuit.specs.Gate.{Kind, words_of}
use Rattle.targets.specs.Wanted.{mask_words, row_words}
use Rattle.targets.proofs.wanted.row_words.Goals as goal

pub returns-then-constant-eq1 : goal.returns-then-constant-eq1
unfolding row_words
returns-then-constant-eq1 c = let a = c.args in
    c.eval_gate.ensures ∙ ap (λ (w : Words). words_of Kind.NOT w w) c.mask_words-w.ensures
    ∙ sym (ap (λ (t : Bool). let w = mask_words most_inputs a.mask in cond t (words_of Kind.NOT w w) w) (eq-eqb a.constant 1 c.if-constant-eq1.true))

pub returns-else-constant-eq1 : goal.returns-else-constant-eq1
unfolding row_words
returns-else-constant-eq1 c = let a = c.args in
    c.mask_words-w.ensures
    ∙ sym (ap (λ (t : Bool). let w = mask_words most_inputs a.mask in cond t (words_of Kind.NOT w w) w) (ne_eqb a.constant 1 c.if-constant-eq1.false))

-- `targets::wanted::mask_words` meets its contract. The invariant: the words of the inputs so far are summed. Assumes nothing.
use mathlib.Core.Path.{ap₂, ◌∙◌}
use Rattle.circuit.specs.Gate.{Kind, words_of}
use Rattle.targets.proofs.Packing.{mask_with, mask_without}
use Rattle.targets.proofs.wanted.mask_words.Goals as goal
use Rattle.targets.proofs.wanted.mask_words.Goals.{else-mask-i-eq1, then-mask-i-eq1}

pub loop-i-preserved : goal.loop-i-preserved
loop-i-preserved c = let mask = c.args.mask in
    let i = c.loop-i.i in
    elim c.if-mask-i-eq1.branch [
      | then-mask-i-eq1 w ↦ w.w-is ∙ w.eval_gate-w.ensures ∙ ap₂ (words_of Kind.XOR) c.loop-i.invariant w.input_words.ensures ∙ mask_with mask i w.if-mask-i-eq1.true
      | else-mask-i-eq1 w ↦ w.w-is ∙ c.loop-i.invariant ∙ mask_without mask i w.if-mask-i-eq1.false
    ]

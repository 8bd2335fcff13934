use mathlib.Core.Path.{sym, ◌∙◌}
use Rattle.drawing.proofs.Digits.{name_ahead, out_no, out_short, out_long, out_zero, out_digits}
use Rattle.drawing.proofs.outputs.output_no.Goals as goal
use Rattle.drawing.proofs.outputs.output_no.Goals.{then-e-p-le1-via-then-e-p-le1, then-e-p-le1-via-else-e-p-le1+then-e-p-gt-LONGEST, then-e-p-le1-via-else-e-p-le1+else-e-p-gt-LONGEST+then-zero_first}

pub returns-then-not-sees : goal.returns-then-not-sees
returns-then-not-sees c = out_no _ _ (sym c.sees.ensures.is ∙ c.if-not-sees.true)

pub overflow_sub-e : goal.overflow_sub-e
overflow_sub-e c = name_ahead _ _ _ c.scan-e.ensures

pub returns-then-e-p-le1 : goal.returns-then-e-p-le1
returns-then-e-p-le1 c =
    elim c.then-e-p-le1.branch [
      | then-e-p-le1-via-then-e-p-le1 w ↦ out_short _ _ (sym c.sees.ensures.is ∙ c.if-not-sees.false) _ c.scan-e.ensures w.if-e-p-le1.true
      | then-e-p-le1-via-else-e-p-le1+then-e-p-gt-LONGEST w ↦ out_long _ _ (sym c.sees.ensures.is ∙ c.if-not-sees.false) _ c.scan-e.ensures w.if-e-p-le1.false w.if-e-p-gt-LONGEST.true
      | then-e-p-le1-via-else-e-p-le1+else-e-p-gt-LONGEST+then-zero_first w ↦ out_zero _ _ (sym c.sees.ensures.is ∙ c.if-not-sees.false) _ c.scan-e.ensures w.if-e-p-le1.false w.if-e-p-gt-LONGEST.false (sym w.zero_first.ensures ∙ w.if-zero_first.true)
    ]

pub returns : goal.returns
returns c = out_digits _ _ (sym c.sees.ensures.is ∙ c.if-not-sees.false) _ c.scan-e.ensures c.if-e-p-le1.false c.if-e-p-gt-LONGEST.false _ (sym c.zero_first.ensures ∙ c.if-zero_first.false) c.digits.ensures

use mathlib.Core.Path.{sym, ◌∙◌}
use native.Mathlib.Omega.{arith}
use Rattle.formula.proofs.Table.{input_size, input_letter, input_below, input_above, input_is}
use Rattle.formula.proofs.keys.input_of.Goals as goal
use Rattle.formula.proofs.keys.input_of.Goals.{then-span-ne2-via-then-span-ne2, then-span-ne2-via-else-span-ne2+then-not-sees}

pub returns-then-span-ne2 : goal.returns-then-span-ne2
returns-then-span-ne2 c =
    elim c.then-span-ne2.branch [
      | then-span-ne2-via-then-span-ne2 w ↦ input_size _ _ _ _ c.span.ensures w.if-span-ne2.true
      | then-span-ne2-via-else-span-ne2+then-not-sees w ↦ input_letter _ _ _ _ c.span.ensures w.if-span-ne2.false (sym w.sees.ensures.is ∙ w.if-not-sees.true)
    ]

pub returns-in-48-to-55 : goal.returns-in-48-to-55
returns-in-48-to-55 c = input_is _ _ _ _ c.span.ensures c.if-span-ne2.false (sym c.sees.ensures.is ∙ c.if-not-sees.false) _ c.byte_at.ensures (omega arith) (omega arith)

pub returns-in_default : goal.returns-in_default
returns-in_default c = input_below _ _ _ _ c.span.ensures c.if-span-ne2.false (sym c.sees.ensures.is ∙ c.if-not-sees.false) _ c.byte_at.ensures (omega arith)

pub returns-in_default-2 : goal.returns-in_default-2
returns-in_default-2 c = input_above _ _ _ _ c.span.ensures c.if-span-ne2.false (sym c.sees.ensures.is ∙ c.if-not-sees.false) _ c.byte_at.ensures (omega arith) (omega arith)

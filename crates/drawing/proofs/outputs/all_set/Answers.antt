use mathlib.Core.Path.{sym, ◌∙◌}
use native.Mathlib.Nat.{sub-zero}
use Rattle.drawing.proofs.Searching.{all_end, all_gap, all_on}
use Rattle.drawing.proofs.outputs.all_set.Goals as goal

pub loop-j-init : goal.loop-j-init
loop-j-init c = simp sub-zero

pub returns-then-is_none : goal.returns-then-is_none
returns-then-is_none c = sym (c.loop-j.invariant ∙ all_gap _ _ _ _ _ c.loop-j-test.true _ c.out_line.ensures c.if-is_none.ensures)

pub loop-j-preserved : goal.loop-j-preserved
loop-j-preserved c = c.loop-j.invariant ∙ all_on _ _ _ _ _ c.loop-j-test.true _ c.out_line.ensures c.if-is_none.ensures

pub returns : goal.returns
returns c = sym (c.loop-j.invariant ∙ all_end _ _ _ _ _ c.loop-j-test.false)

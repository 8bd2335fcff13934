use mathlib.Core.Path.{ap, ◌∙◌}
use Rattle.drawing.specs.Numbering.{shift_of}
use Rattle.drawing.specs.Outputs.{line_or0}
use Rattle.drawing.proofs.Searching.{or0_is}
use Rattle.drawing.proofs.Filling.{filled_none, filled_next, filled_all}
use Rattle.drawing.proofs.numbering.out_lines.Goals as goal

pub loop-j-init : goal.loop-j-init
loop-j-init c = filled_none _ _

pub loop-j-preserved : goal.loop-j-preserved
loop-j-preserved c = filled_next _ _ _ _ _ c.loop-j.invariant c.loop-j-test.true (c.shift.ensures ∙ ap (shift_of c.args.n) (c.unwrap_or.ensures ∙ or0_is c.out_line.result ∙ ap line_or0 c.out_line.ensures))

pub returns : goal.returns
returns c = filled_all _ _ _ _ c.loop-j.invariant c.loop-j-test.false

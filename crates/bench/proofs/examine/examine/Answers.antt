-- `examine`: the loop keeps `Examining`; every index is one of the lines there may be.
use mathlib.Core.Path.{refl, ◌∙◌, ap}
use native.Mathlib.Omega.{arith}
use Rattle.circuit.specs.Structs.{line_in}
use Rattle.circuit.proofs.Operands.{second_line}
use Rattle.bench.specs.Parts.{examined_as}
use Rattle.bench.proofs.Examining.{examine_start, examine_next, examine_done}
use Rattle.bench.proofs.examine.examine.Goals as goal

pub loop-j-init : goal.loop-j-init
loop-j-init c = examine_start _ c.requires.0 refl refl c.inputs_only-c.ensures

pub loop-j-preserved : goal.loop-j-preserved
loop-j-preserved c = examine_next _ c.loop-j.c c.loop-j.j c.line_index-x.result c.line_index-y.result c.deeper.result c.and_deeper.result c.eval_gate.result
    c.requires.0 c.requires.1 (omega arith) c.loop-j.invariant c.line_index-x.ensures.0 (c.line_index-y.ensures.0 ∙ ap line_in c.second_read.ensures ∙ second_line _ _ _)
    (record { depth = c.deeper.ensures; and = c.and_deeper.ensures; value = c.eval_gate.ensures })

pub returns : goal.returns
unfolding examined_as
returns c = examine_done _ _ _ (omega arith) c.loop-j.invariant

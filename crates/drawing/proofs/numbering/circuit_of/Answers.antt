use Rattle.drawing.proofs.Sketching.{circuit_is}
use Rattle.drawing.proofs.numbering.circuit_of.Goals as goal

pub returns : goal.returns
returns c = circuit_is _ c.args.book.now _ _ _ _ _ _ c.from.ensures c.top.ensures c.few_outputs.ensures c.shift_all-left.ensures c.shift_all-right.ensures c.out_lines.ensures

use Rattle.drawing.proofs.Searching.{no_input, no_output, outputs_set}
use Rattle.drawing.proofs.outputs.is_whole.Goals as goal

pub returns-then-book-eq0 : goal.returns-then-book-eq0
returns-then-book-eq0 c = no_input _ _ _ _ c.if-book-eq0.true

pub returns-then-t-ne0 : goal.returns-then-t-ne0
returns-then-t-ne0 c = outputs_set _ _ _ _ c.if-book-eq0.false _ c.top-t.ensures _ c.if-t-ne0.true c.all_set.ensures

pub returns-else-t-ne0 : goal.returns-else-t-ne0
returns-else-t-ne0 c = no_output _ _ _ _ c.if-book-eq0.false _ c.top-t.ensures c.if-t-ne0.false

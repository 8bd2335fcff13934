-- `talk::calls::open_with` meets its contract. Assumes nothing.
use Rattle.talk.proofs.calls.open_with.Goals as goal

pub returns-then-matrix : goal.returns-then-matrix
returns-then-matrix c = rw c.if-matrix.true c.open_matrix.ensures

pub returns-else-matrix : goal.returns-else-matrix
returns-else-matrix c = rw c.if-matrix.false c.open_table.ensures

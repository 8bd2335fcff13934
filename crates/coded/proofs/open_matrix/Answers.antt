-- `coded::open_matrix` meets its contract. Assumes nothing.
use mathlib.Core.Bool.{true}
use Rattle.targets.specs.Target.{brought}
use Rattle.bench.specs.State.{limits}
use Rattle.coded.proofs.Coding.{open-coded}
use Rattle.coded.proofs.open_matrix.Goals as goal

pub returns : goal.returns
returns c = let a = c.args in
    open-coded a.bench a.bytes.now (brought true a.rows.now) (limits a.gates a.depth a.ands) _ _ c.open_numbers.ensures c.open_matrix.ensures

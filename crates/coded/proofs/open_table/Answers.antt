-- `coded::open_table` meets its contract. Assumes nothing.
use mathlib.Core.Bool.{false}
use Rattle.targets.specs.Target.{brought}
use Rattle.bench.specs.State.{limits}
use Rattle.coded.proofs.Coding.{open-coded}
use Rattle.coded.proofs.open_table.Goals as goal

pub returns : goal.returns
returns c = let a = c.args in
    open-coded a.bench a.bytes.now (brought false a.entries.now) (limits a.gates a.depth a.ands) _ _ c.open_numbers.ensures c.open_table.ensures

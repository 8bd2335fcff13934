-- `coded::sweep` meets its contract. Assumes nothing.
use Rattle.bench.specs.Calls.{sweep_edit, after_sweep}
use Rattle.coded.proofs.Coding.{edit-coded}
use Rattle.coded.proofs.sweep.Goals as goal

pub returns : goal.returns
returns c = edit-coded c.args.bench sweep_edit after_sweep _ _ c.edit_numbers.ensures c.sweep.ensures

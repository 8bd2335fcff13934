-- `coded::change_entry` meets its contract. Assumes nothing.
use Rattle.bench.specs.State.{Present}
use Rattle.bench.specs.Calls.{no_rework, entry_edit_answer, after_entry}
use Rattle.coded.proofs.Coding.{edit-coded}
use Rattle.coded.proofs.change_entry.Goals as goal

pub returns : goal.returns
returns c = let a = c.args in
    edit-coded a.bench (λ (p : Present). no_rework (entry_edit_answer p a.i a.value a.constant))
    (λ (p : Present). after_entry p a.i a.value a.constant) _ _ c.edit_numbers.ensures c.change_entry.ensures

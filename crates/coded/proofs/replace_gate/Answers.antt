-- `coded::replace_gate` meets its contract. Assumes nothing.
use Rattle.bench.specs.State.{Present}
use Rattle.bench.specs.Calls.{gate_edit, after_gate}
use Rattle.coded.proofs.Coding.{edit-coded}
use Rattle.coded.proofs.replace_gate.Goals as goal

pub returns : goal.returns
returns c = let a = c.args in
    edit-coded a.bench (λ (p : Present). gate_edit p a.k a.kind a.a a.b) (λ (p : Present). after_gate p a.k a.kind a.a a.b) _ _ c.edit_numbers.ensures c.replace_gate.ensures

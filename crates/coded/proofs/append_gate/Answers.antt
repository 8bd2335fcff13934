-- `coded::append_gate` meets its contract. Assumes nothing.
use Rattle.bench.specs.State.{Present}
use Rattle.bench.specs.Calls.{append_edit, after_append}
use Rattle.coded.specs.Coded.{edit_coded}
use Rattle.coded.proofs.Coding.{edit-coded}
use Rattle.coded.proofs.append_gate.Goals as goal

pub returns : goal.returns
unfolding edit_coded
returns c = let a = c.args in
    edit-coded a.bench (λ (p : Present). append_edit p a.kind a.a a.b) (λ (p : Present). after_append p a.kind a.a a.b) _ _ (λ i. record { bench = c.append_gate-done.result.bench; edit = c.told_apart.ensures i }) c.append_gate-done.ensures

-- `coded::point_output` meets its contract. Assumes nothing.
use Rattle.bench.specs.State.{Present}
use Rattle.bench.specs.Calls.{no_rework, output_edit_answer, after_output}
use Rattle.coded.proofs.Coding.{edit-coded}
use Rattle.coded.proofs.point_output.Goals as goal

pub returns : goal.returns
returns c = let a = c.args in
    edit-coded a.bench (λ (p : Present). no_rework (output_edit_answer p a.j a.line)) (λ (p : Present). after_output p a.j a.line) _ _ c.edit_numbers.ensures c.point_output.ensures

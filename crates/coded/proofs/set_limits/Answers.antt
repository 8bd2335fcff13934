-- `coded::set_limits` meets its contract. Assumes nothing.
use Rattle.bench.specs.State.{Present, limits}
use Rattle.bench.specs.Calls.{no_rework, limits_answer, after_limits}
use Rattle.coded.proofs.Coding.{edit-coded}
use Rattle.coded.proofs.set_limits.Goals as goal

pub returns : goal.returns
returns c = let a = c.args in
    edit-coded a.bench (λ (p : Present). no_rework (limits_answer p)) (λ (p : Present). after_limits p (limits a.gates a.depth a.ands)) _ _ c.edit_numbers.ensures c.set_limits.ensures

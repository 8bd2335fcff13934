-- `replace_gate`: on a right bench the answer is the edit's, and what is left is the bench of the state after it.
use Rattle.bench.proofs.Replacing.{look_fits, gate_given}
use Rattle.bench.proofs.edits.replace_gate.Goals as goal

pub rework-requires : goal.rework-requires
rework-requires c = λ d.
    let o = look_fits c.args.bench _ _ _ _ _ c.look_at_gate-look.ensures d in
    (o.shape.n_most, o.shape.g_most, o.there)

pub returns : goal.returns
returns c = let a = c.args in
    gate_given a.bench a.k a.kind a.a a.b _ _ _ _ _ c.look_at_gate-look.ensures c.low_byte.ensures c.low16.ensures c.low16-2.ensures
    c.rework.ensures

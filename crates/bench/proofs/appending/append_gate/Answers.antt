-- `append_gate`: on a right bench the answer is that of the gate added, and what is left is the bench of the state with it.
use Rattle.bench.proofs.Appends.{look_fits, append_given}
use Rattle.bench.proofs.appending.append_gate.Goals as goal

pub extend-requires : goal.extend-requires
extend-requires c = λ d.
    let o = look_fits c.args.bench _ _ _ _ c.look_at_append-look.ensures d in
    (o.shape.n_most, o.room)

pub returns : goal.returns
returns c = let a = c.args in
    append_given a.bench a.kind a.a a.b _ _ _ _ _ c.look_at_append-look.ensures c.low_byte.ensures c.low16.ensures c.low16-2.ensures
    c.extend.ensures

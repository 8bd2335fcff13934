-- `stored::writer::put_outs` meets its contract. Assumes nothing.
use native.Mathlib.Omega.{arith}
use mathlib.Core.Path.{◌≡◌, ap, ◌∙◌}
use mathlib.Core.List.{[], ◌∷◌}
use Prim.Native.Nat.{ℕ, ◌+◌, ◌*◌}
use lib.ListN.{length}
use Rattle.circuit.specs.Lines.{upto}
use Rattle.circuit.specs.Structs.{out_of}
use Rattle.stored.specs.Stored.{in_byte, out_bytes}
use Rattle.stored.specs.Writing.{over}
use Rattle.stored.proofs.Over.{over_none, over-length, over_next, outs_suc, outs_size}
use Rattle.stored.proofs.writer.put_outs.Goals as goal
use Rattle.stored.proofs.writer.put_outs.Goals.{At-loop-j}

pub loop-j-init : goal.loop-j-init
unfolding upto out_bytes
loop-j-init c = let a = c.args in over_none a.room.now a.from

-- the room is as long as it was
long : (c : At-loop-j) → length c.loop-j.room ≡ length c.args.room.now
long c =
    let a = c.args in
    let B = out_bytes (upto (out_of a.c) c.loop-j.j) in
    ap length c.loop-j.invariant ∙ over-length a.room.now a.from B (omega (arith, outs_size (out_of a.c) c.loop-j.j))

pub put_record-requires : goal.put_record-requires
put_record-requires c = omega (arith, long (goal.at.put_record-requires c).At-loop-j)

pub loop-j-preserved : goal.loop-j-preserved
loop-j-preserved c = let a = c.args in
    let j = c.loop-j.j in
    let at = a.from + 3 * j in
    let q = out_of a.c j in
    let B = out_bytes (upto (out_of a.c) j) in
    let z = outs_size (out_of a.c) j in
    c.put_record.ensures
    ∙ ap (λ (x : ℕ). over c.loop-j.room at (79 ∷ 80 ∷ x ∷ [])) (c.low_byte.ensures ∙ ap in_byte c.line_index.ensures.0)
    ∙ over_next a.room.now c.loop-j.room a.from at B (79 ∷ 80 ∷ in_byte q ∷ []) c.loop-j.invariant (omega arith) (omega arith)
    ∙ ap (over a.room.now a.from) (outs_suc (out_of a.c) j)

pub shape_of-room : goal.shape_of-room
shape_of-room c = long (goal.at.shape_of-room c).At-loop-j

pub returns : goal.returns
returns c = let a = c.args in
    let e : c.loop-j.j ≡ a.c.m = omega arith in
    c.loop-j.invariant ∙ ap (λ (x : ℕ). over a.room.now a.from (out_bytes (upto (out_of a.c) x))) e

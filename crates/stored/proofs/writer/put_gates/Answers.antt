-- `stored::writer::put_gates` meets its contract. Assumes nothing.
use native.Mathlib.Omega.{arith}
use mathlib.Core.Path.{◌≡◌, ap, ◌∙◌}
use mathlib.Core.List.{[], ◌∷◌}
use Prim.Native.Nat.{ℕ, ◌+◌, ◌*◌}
use lib.ListN.{length}
use Rattle.circuit.specs.Lines.{upto}
use Rattle.circuit.specs.Structs.{gate_of}
use Rattle.stored.specs.Stored.{in_byte, gate_bytes}
use Rattle.stored.specs.Writing.{over}
use Rattle.stored.proofs.Over.{over_none, over-length, over_next, gates_suc, gates_size}
use Rattle.stored.proofs.writer.put_gates.Goals as goal
use Rattle.stored.proofs.writer.put_gates.Goals.{At-loop-j}

pub loop-j-init : goal.loop-j-init
unfolding upto gate_bytes
loop-j-init c = over_none c.args.room.now 5

-- the room is as long as it was
long : (c : At-loop-j) → length c.loop-j.room ≡ length c.args.room.now
long c =
    let a = c.args in
    let B = gate_bytes (upto (gate_of a.c) c.loop-j.j) in
    ap length c.loop-j.invariant ∙ over-length a.room.now 5 B (omega (arith, gates_size (gate_of a.c) c.loop-j.j))

pub put_record-requires : goal.put_record-requires
put_record-requires c = omega (arith, long (goal.at.put_record-requires c).At-loop-j)

pub loop-j-preserved : goal.loop-j-preserved
loop-j-preserved c = let a = c.args in
    let j = c.loop-j.j in
    let at = 5 + 5 * j in
    let q = gate_of a.c j in
    let B = gate_bytes (upto (gate_of a.c) j) in
    let left = c.low_byte.ensures ∙ ap in_byte c.line_index.ensures.0 in
    let right = c.low_byte-in-loop-j.ensures ∙ ap in_byte c.line_index-in-loop-j.ensures.0 in
    let z = gates_size (gate_of a.c) j in
    c.put_record.ensures
    ∙ (λ i. over c.loop-j.room at (71 ∷ 84 ∷ q.kind ∷ left i ∷ right i ∷ []))
    ∙ over_next a.room.now c.loop-j.room 5 at B (71 ∷ 84 ∷ q.kind ∷ in_byte q.left ∷ in_byte q.right ∷ []) c.loop-j.invariant (omega arith) (omega arith)
    ∙ ap (over a.room.now 5) (gates_suc (gate_of a.c) j)

pub shape_of-room : goal.shape_of-room
shape_of-room c = long (goal.at.shape_of-room c).At-loop-j

pub returns : goal.returns
returns c = let a = c.args in
    let e : c.loop-j.j ≡ a.c.g = omega arith in
    c.loop-j.invariant ∙ ap (λ (x : ℕ). over a.room.now 5 (gate_bytes (upto (gate_of a.c) x))) e

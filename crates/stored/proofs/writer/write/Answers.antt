-- `stored::writer::write` meets its contract: the shape fits bytes, and each part stands after the one before. Assumes nothing.
use native.Mathlib.Nat.{mod-eq_of_lt}
use native.Mathlib.Omega.{arith}
use mathlib.Core.Path.{◌∙◌, sym}
use mathlib.Core.List.{[], ◌∷◌}
use borrow.Author.Rules.{rules}
use Rattle.circuit.proofs.Shapes.{Shaped, shape_is}
use Rattle.stored.specs.Writing.{over}
use Rattle.stored.proofs.Written.{no_shape, no_room, written}
use Rattle.stored.proofs.writer.write.Goals as goal
use Rattle.stored.proofs.writer.write.Goals.{Else-not-is_shape}

-- what the test showed
fits : (c : Else-not-is_shape) → let a = c.args.c in Shaped a.n a.m a.g
fits c = shape_is _ _ _ (sym c.is_shape.ensures ∙ c.if-not-is_shape.false)

pub overflow_mul-size : goal.overflow_mul-size
overflow_mul-size c = omega (arith, fits (goal.at.overflow_mul-size c).Else-not-is_shape)

pub overflow_add-size : goal.overflow_add-size
overflow_add-size c = omega (arith, fits (goal.at.overflow_add-size c).Else-not-is_shape)

pub overflow_mul-size-2 : goal.overflow_mul-size-2
overflow_mul-size-2 c = omega (arith, fits (goal.at.overflow_mul-size-2 c).Else-not-is_shape)

pub overflow_add-size-2 : goal.overflow_add-size-2
overflow_add-size-2 c = omega (arith, fits (goal.at.overflow_add-size-2 c).Else-not-is_shape)

pub put_gates-requires : goal.put_gates-requires
put_gates-requires c = ((fits (goal.at.put_gates-requires c).Else-not-is_shape).g_most, search rules)

pub put_outs-requires : goal.put_outs-requires
put_outs-requires c = ((fits (goal.at.put_outs-requires c).Else-not-is_shape).m_most, search rules)

pub returns-then-not-is_shape : goal.returns-then-not-is_shape
returns-then-not-is_shape c = no_shape c.args.c c.args.room.now (sym c.is_shape.ensures ∙ c.if-not-is_shape.true)

pub returns-then-room-size : goal.returns-then-room-size
returns-then-room-size c = no_room c.args.c c.args.room.now (sym c.is_shape.ensures ∙ c.if-not-is_shape.false) c.if-room-size.true

pub returns : goal.returns
returns c = let a = c.args in
    let R = a.room.now in
    let s = fits (goal.at.returns c).Else-not-is_shape in
    let n = c.low_byte.ensures ∙ mod-eq_of_lt (omega (arith, s.n_most)) in
    let m = c.low_byte-2.ensures ∙ mod-eq_of_lt (omega (arith, s.m_most)) in
    let e = c.low_byte-3.ensures ∙ mod-eq_of_lt (omega (arith, s.g_most)) in
    written a.c R (sym c.is_shape.ensures ∙ c.if-not-is_shape.false) _ _ _ c.if-room-size.false
    (c.put_record.ensures ∙ (λ i. over R 0 (83 ∷ 72 ∷ n i ∷ m i ∷ e i ∷ [])))
    c.put_gates.ensures c.put_outs.ensures

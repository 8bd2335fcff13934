-- `sweep::sweep` meets its contract. Assumes nothing.
use mathlib.Core.Path.{sym, ◌∙◌}
use Rattle.circuit.proofs.Shapes.{shape_is}
use Rattle.sweep.proofs.Holding.{swept_is, not-swept}
use Rattle.sweep.proofs.sweep.Goals as goal

pub returns-then-not-is_shape : goal.returns-then-not-is_shape
returns-then-not-is_shape c = not-swept c.args.c (sym c.is_shape.ensures ∙ c.if-not-is_shape.true)

pub used_lines-requires : goal.used_lines-requires
used_lines-requires c = let o = shape_is _ _ _ (sym c.is_shape.ensures ∙ c.if-not-is_shape.false) in (o.n_most, o.m_most, o.g_most)

pub merge-count-requires : goal.merge-count-requires
merge-count-requires c = let o = shape_is _ _ _ (sym c.is_shape.ensures ∙ c.if-not-is_shape.false) in (o.n_least, o.n_most, o.g_most)

pub point_outs-outputs-requires : goal.point_outs-outputs-requires
point_outs-outputs-requires c = (shape_is _ _ _ (sym c.is_shape.ensures ∙ c.if-not-is_shape.false)).m_most

pub returns : goal.returns
returns c = swept_is c.args.c c.used_lines.result c.merge-count.result c.point_outs-outputs.result (sym c.is_shape.ensures ∙ c.if-not-is_shape.false)
    c.used_lines.ensures c.merge-count.ensures c.point_outs-outputs.ensures

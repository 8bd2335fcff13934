-- `circuit::depth::depth_of` meets its contract. Assumes nothing.
use mathlib.Core.Path.{◌≡◌, sym, ◌∙◌}
use Prim.Native.Nat.{◌≤◌}
use native.Mathlib.Omega.{arith}
use borrow.Author.Rules.{rules}
use lib.ListN.{length}
use Rattle.circuit.specs.Sizes.{most_outputs}
use Rattle.circuit.proofs.Shapes.{Shaped, shape_is}
use Rattle.circuit.proofs.Depths.{depth_is, no_depth}
use Rattle.circuit.proofs.depth.depth_of.Goals as goal
use Rattle.circuit.proofs.depth.depth_of.Goals.{Start, Then-is_shape}

-- what the test showed
ok : (c : Then-is_shape) → let a = c.args.c in Shaped a.n a.m a.g
ok c = shape_is _ _ _ (sym c.is_shape.ensures ∙ c.if-is_shape.true)

long : (c : Start) → length c.args.c.outputs ≡ most_outputs
long c = search rules

-- so the outputs that are lent lie within the array
within : (c : Then-is_shape) → let a = c.args.c in a.m ≤ length a.outputs
within c = omega (arith, ok c, long c.before.before)

pub line_depths-requires : goal.line_depths-requires
line_depths-requires c = let o = ok (goal.at.line_depths-requires c).Then-is_shape in (o.n_most, o.g_most)

pub shared_ref_as_front-overall_of : goal.shared_ref_as_front-overall_of
shared_ref_as_front-overall_of c = (ok (goal.at.shared_ref_as_front-overall_of c).Then-is_shape).m_most

pub returns-then-is_shape : goal.returns-then-is_shape
returns-then-is_shape c = let k = (goal.at.returns-then-is_shape c).Then-is_shape in
    c.overall_of.ensures ∙ depth_is k.args.c c.line_depths.result c.line_depths.ensures (within k) (sym k.is_shape.ensures ∙ k.if-is_shape.true)

pub returns-else-is_shape : goal.returns-else-is_shape
returns-else-is_shape c = no_depth c.args.c (sym c.is_shape.ensures ∙ c.if-is_shape.false)

-- `stored::reader::check_body` meets its contract. Assumes nothing.
use native.Mathlib.Omega.{arith}
use borrow.Author.Rules.{rules}
use mathlib.Core.Path.{◌≡◌, ap, ◌∙◌, sym}
use Prim.Native.Nat.{◌+◌, ◌*◌}
use lib.ListN.{drop}
use Rattle.std.specs.Prelude.{Err}
use Rattle.circuit.specs.Rules.{Answer, and_then}
use Rattle.circuit.proofs.Shapes.{Shaped, shape_is}
use Rattle.stored.specs.Reading.{answers, out_here}
use Rattle.stored.proofs.Accept.{no_shape, no_length, body_is}
use Rattle.stored.proofs.reader.check_body.Goals as goal
use Rattle.stored.proofs.reader.check_body.Goals.{Else-not-is_shape}

-- what the test showed
fits : (c : Else-not-is_shape) → let a = c.args in Shaped a.n a.m a.g
fits c = shape_is _ _ _ (sym c.is_shape.ensures ∙ c.if-not-is_shape.false)

pub overflow_mul-g : goal.overflow_mul-g
overflow_mul-g c = omega (arith, fits (goal.at.overflow_mul-g c).Else-not-is_shape)

pub overflow_add-g : goal.overflow_add-g
overflow_add-g c = omega (arith, fits (goal.at.overflow_add-g c).Else-not-is_shape)

pub overflow_mul-m : goal.overflow_mul-m
overflow_mul-m c = omega (arith, fits (goal.at.overflow_mul-m c).Else-not-is_shape)

pub overflow_add-g-2 : goal.overflow_add-g-2
overflow_add-g-2 c = omega (arith, fits (goal.at.overflow_add-g-2 c).Else-not-is_shape)

pub overflow_add-n : goal.overflow_add-n
overflow_add-n c = omega (arith, fits (goal.at.overflow_add-n c).Else-not-is_shape)

pub check_gates-requires : goal.check_gates-requires
check_gates-requires c = let o = fits (goal.at.check_gates-requires c).Else-not-is_shape in (o.n_most, o.g_most, omega arith)

pub check_outputs-requires : goal.check_outputs-requires
check_outputs-requires c = let o = fits (goal.at.check_outputs-requires c).Else-not-is_shape in (o.m_most, omega arith)

pub returns-then-not-is_shape : goal.returns-then-not-is_shape
returns-then-not-is_shape c = let a = c.args in
    no_shape a.only a.bytes.now a.n a.m a.g (sym c.is_shape.ensures ∙ c.if-not-is_shape.true)

pub returns-then-bytes-g : goal.returns-then-bytes-g
returns-then-bytes-g c = let a = c.args in
    no_length a.only a.bytes.now a.n a.m a.g (sym c.is_shape.ensures ∙ c.if-not-is_shape.false) c.if-bytes-g.true

pub returns-in_err-check_gates : goal.returns-in_err-check_gates
returns-in_err-check_gates c = let a = c.args in
    let s = a.bytes.now in
    let f : c.from_residual.result ≡ Err c.in_err-check_gates.field-0.0 = search rules in
    f ∙ sym (ap (λ (x : Answer). and_then x (answers (out_here (a.n + a.g)) 3 0 a.m (drop (5 + 5 * a.g) s))) (sym c.check_gates.ensures ∙ c.in_err-check_gates.was))
    ∙ body_is a.only s a.n a.m a.g (sym c.is_shape.ensures ∙ c.if-not-is_shape.false) c.if-bytes-g.false

pub returns : goal.returns
returns c = let a = c.args in
    let s = a.bytes.now in
    c.check_outputs.ensures
    ∙ sym (ap (λ (x : Answer). and_then x (answers (out_here (a.n + a.g)) 3 0 a.m (drop (5 + 5 * a.g) s))) (sym c.check_gates.ensures ∙ c.in_ok-check_gates.was))
    ∙ body_is a.only s a.n a.m a.g (sym c.is_shape.ensures ∙ c.if-not-is_shape.false) c.if-bytes-g.false

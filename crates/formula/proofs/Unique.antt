-- What the promises of functions over lent gates determine: two answers that make the same gates are equal.
use mathlib.Core.Path.{◌≡◌, ap}
use Rattle.formula.specs.declared.Gates.{Gates}
use Rattle.formula.specs.Emit.{Out, Read, read_at}

-- the answer and the gates
pub read_determined : (g h : Gates) (r q : Out) → read_at g r ≡ read_at h q → (r ≡ q) × (g ≡ h)
read_determined g h r q e = (ap (λ (x : Read). x.out) e, ap (λ (x : Read). x.gates) e)

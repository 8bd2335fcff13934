-- `lower` meets its contract: a row that is made stays made, and the look-up tells of another.
use Prim.Native.Nat.{◌*◌, ◌+◌}
use native.Mathlib.Omega.{arith}
use Rattle.builder.proofs.Lookup.{misses-le}
use Rattle.builder.proofs.grow.lower.Goals as goal

pub overflow_cast-result : goal.overflow_cast-result
overflow_cast-result c = omega (arith, c.misses.ensures, misses-le c.args.h.now c.args.line.mask c.args.line.cost (c.from.result * 256 + c.args.t) c.cost.result)

pub overflow_add-result : goal.overflow_add-result
overflow_add-result c = omega (arith, c.misses.ensures, misses-le c.args.h.now c.args.line.mask c.args.line.cost (c.from.result * 256 + c.args.t) c.cost.result)

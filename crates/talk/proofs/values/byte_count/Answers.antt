-- `talk::values::byte_count` meets its contract. Assumes nothing.
use mathlib.Core.Path.{ap}
use Prim.Native.Nat.{ℕ, ◌+◌, ◌/◌}
use native.Mathlib.Omega.{arith}
use Rattle.talk.proofs.Packing.{one_shifted, few_values}
use Rattle.talk.proofs.values.byte_count.Goals as goal

pub overflow_add-result : goal.overflow_add-result
overflow_add-result c = let n = c.args.n in omega (arith, one_shifted n c.requires, few_values n c.requires)

pub returns : goal.returns
returns c = let n = c.args.n in (ap (λ (x : ℕ). (x + 7) / 8) (one_shifted n c.requires), omega (arith, one_shifted n c.requires, few_values n c.requires))

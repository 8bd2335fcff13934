-- `talk::values::value_byte` meets its contract. Assumes nothing.

use Prim.Native.Nat.{◌*◌, ◌/◌, ◌%◌, ◌^◌, ◌<◌}
use native.Mathlib.Nat.{mod-lt}
use lib.ListN.{get_or}
use mathlib.Core.List.{[], ◌∷◌}
use lib.Pow.{pow_pos}
use native.Mathlib.Omega.{arith}
use Rattle.talk.specs.Texts.{value_bits}
use Rattle.talk.proofs.Packing.{byte_is}
use Rattle.talk.proofs.values.value_byte.Goals as goal

pub nonzero_rem-result-2 : goal.nonzero_rem-result-2
nonzero_rem-result-2 c = omega (arith, c.byte_end-end.ensures.0, pow_pos (value_bits c.args.n))

pub overflow_cast-result : goal.overflow_cast-result
overflow_cast-result c = let b = c.byte_end-end in
    let some : 0 < b.result = omega (arith, b.ensures.0, pow_pos (value_bits c.args.n)) in
    omega (arith, b.ensures.1, mod-lt ((get_or (c.args.w.w0 ∷ c.args.w.w1 ∷ c.args.w.w2 ∷ c.args.w.w3 ∷ []) (c.args.j / 8) 0) / 2 ^ (8 * (c.args.j % 8))) some)

pub returns : goal.returns
returns c = let b = c.byte_end-end in
    let a = c.args in
    byte_is a.w a.n a.j b.result b.ensures.0

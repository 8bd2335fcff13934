-- `talk::values::byte_end` meets its contract. Assumes nothing.
use mathlib.Core.Path.{◌≡◌, ap, ◌∙◌}
use Prim.Native.Nat.{ℕ, ◌^◌, ◌≤◌, min}
use native.Mathlib.Omega.{arith}
use Rattle.talk.specs.Texts.{value_bits}
use Rattle.talk.proofs.Packing.{one_shifted, end_fits}
use Rattle.talk.proofs.values.byte_end.Goals as goal

pub returns : goal.returns
returns c = let n = c.args.n in
    let bits = c.min-bits in
    let few : bits.result ≤ 8 = omega (arith, bits.ensures) in
    let same : bits.result ≡ value_bits n = bits.ensures ∙ ap (min 8) (one_shifted n c.requires) in
    let e = one_shifted bits.result few ∙ ap (λ (b : ℕ). 2 ^ b) same in
    (e, omega (arith, e, end_fits n))

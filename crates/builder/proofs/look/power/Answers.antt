-- `power` meets its contract: the shift is exact.
use mathlib.Core.Path.{◌∙◌}
use Prim.Native.Nat.{◌^◌, ◌≤◌}
use native.Mathlib.Nat.{one-mul}
use native.Mathlib.Omega.{arith}
use lib.Pow.{pow_mono, shl_exact}
use Rattle.builder.proofs.look.power.Goals as goal

pub returns : goal.returns
returns c = shl_exact 1 c.args.k 64 (omega arith) (omega (arith, pow_mono (let h : c.args.k ≤ 15 = omega arith in h))) ∙ one-mul (2 ^ c.args.k)

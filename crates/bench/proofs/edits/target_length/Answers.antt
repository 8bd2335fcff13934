-- `bench::edits::target_length` meets its contract. Assumes nothing.
use mathlib.Core.Path.{◌∙◌, sym, ap}
use mathlib.Core.Bool.{Bool, cond}
use Prim.Native.Nat.{◌^◌}
use native.Mathlib.Omega.{arith}
use Rattle.targets.proofs.Fitting.{shift_is}
use Rattle.bench.proofs.edits.target_length.Goals as goal

pub returns-else-only : goal.returns-else-only
returns-else-only c = let a = c.args in
    shift_is a.n (omega (arith, c.requires)) ∙ ap (λ (t : Bool). cond t a.m (2 ^ a.n)) (sym c.if-only.false)

use mathlib.Core.Path.{◌≡◌}
use mathlib.Core.Bool.{Bool}
use Prim.Native.Nat.{ℕ, ◌-◌}
use Rattle.bench.specs.declared.Bench.{Bench}
use Rattle.bench.specs.State.{least}
use Rattle.report.specs.Judged.{differs_in}
use Rattle.report.proofs.lowest_output.Given as goal

-- output j differs on input value x
abbrev pub bad : Bench → ℕ → ℕ → Bool
bad b x = differs_in b.values b.outputs b.wanted x

abbrev pub invariant-loop-j : goal.invariant-loop-j
invariant-loop-j l = least (bad l.b l.x) (l.b.m - l.j) l.j ≡ least (bad l.b l.x) l.b.m 0

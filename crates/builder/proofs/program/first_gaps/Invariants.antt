use mathlib.Core.List.{map}
use mathlib.Core.Path.{◌≡◌}
use Prim.Native.Nat.{ℕ, ◌-◌}
use lib.ListN.{take}
use Rattle.circuit.specs.Lines.{padded}
use Rattle.circuit.specs.Sizes.{most_outputs}
use Rattle.distance.specs.Base.{weight}
use Rattle.builder.proofs.program.first_gaps.Given as goal

abbrev pub invariant-loop-i : goal.invariant-loop-i
invariant-loop-i l = l.gaps ≡ padded most_outputs 0 (take l.i (map (λ (t : ℕ). weight l.inputs.n t - 1) l.rows))

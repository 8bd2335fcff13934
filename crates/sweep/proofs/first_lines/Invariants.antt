use mathlib.Core.Path.{◌≡◌}
use Prim.Native.Nat.{ℕ}
use Rattle.circuit.specs.Lines.{upto, padded}
use Rattle.circuit.specs.Sizes.{most_lines}
use Rattle.sweep.proofs.first_lines.Given as goal

abbrev pub invariant-loop-i : goal.invariant-loop-i
invariant-loop-i l = l.new ≡ padded most_lines 0 (upto (λ (k : ℕ). k) l.i)

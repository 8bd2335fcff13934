use mathlib.Core.Path.{◌≡◌}
use Prim.Native.Nat.{ℕ}
use lib.ListN.{get_or}
use Rattle.circuit.specs.Lines.{upto, padded}
use Rattle.circuit.specs.Sizes.{most_outputs}
use Rattle.circuit.specs.Structs.{line_in}
use Rattle.sweep.proofs.point_outs.Given as goal

abbrev pub invariant-loop-i : goal.invariant-loop-i
invariant-loop-i l = l.outs ≡ padded most_outputs 0 (upto (λ (k : ℕ). get_or l.new (line_in (get_or l.old k 0)) 0) l.i)

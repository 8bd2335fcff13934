use mathlib.Core.Path.{◌≡◌}
use Prim.Native.Nat.{max}
use Rattle.circuit.proofs.Depths.{From}
use Rattle.circuit.proofs.depth.overall_of.Given as goal

abbrev pub invariant-loop-line : goal.invariant-loop-line
invariant-loop-line l = From l.each l.outputs 0 ≡ max l.top (From l.each l.outputs l.line-index)

use mathlib.Core.Path.{◌≡◌}
use Prim.Native.Nat.{max}
use lib.ListN.{drop}
use Rattle.circuit.specs.Lines.{greatest}
use Rattle.circuit.proofs.depth.greatest_of.Given as goal

abbrev pub invariant-loop-x : goal.invariant-loop-x
invariant-loop-x l = greatest l.xs ≡ max l.top (greatest (drop l.x-index l.xs))

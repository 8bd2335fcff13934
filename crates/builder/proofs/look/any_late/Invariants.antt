use mathlib.Core.List.{map}
use mathlib.Core.Path.{◌≡◌}
use lib.ListN.{drop}
use Rattle.circuit.specs.Lines.{any_of}
use Rattle.builder.specs.Rule.{rows_of}
use Rattle.builder.specs.Late.{too_late}
use Rattle.builder.proofs.look.any_late.Given as goal

abbrev pub invariant-loop-i : goal.invariant-loop-i
invariant-loop-i l = let late = too_late l.inputs.n l.inputs.arrivals.now in any_of (map late (rows_of l.rows l.limits)) ≡ any_of (map late (drop l.i (rows_of l.rows l.limits)))

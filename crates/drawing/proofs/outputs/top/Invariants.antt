use mathlib.Core.Path.{◌≡◌}
use Prim.Native.Nat.{◌-◌}
use Rattle.formula.specs.Names.{few_names}
use Rattle.drawing.specs.Outputs.{top_from}
use Rattle.drawing.proofs.outputs.top.Given as goal

abbrev pub invariant-loop-x : goal.invariant-loop-x
invariant-loop-x l = top_from l.fn.numbers (few_names l.fn.names.n) 0 0 ≡ top_from l.fn.numbers (few_names l.fn.names.n - l.x-index) l.x-index l.t

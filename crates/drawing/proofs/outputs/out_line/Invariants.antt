use mathlib.Core.Path.{◌≡◌}
use Prim.Native.Nat.{◌-◌}
use Rattle.formula.specs.Names.{few_names}
use Rattle.drawing.specs.Outputs.{out_from}
use Rattle.drawing.proofs.outputs.out_line.Given as goal

abbrev pub invariant-loop-i : goal.invariant-loop-i
invariant-loop-i l = out_from l.numbers l.names.lines l.j (few_names l.names.n) 0 ≡ out_from l.numbers l.names.lines l.j (few_names l.names.n - l.i) l.i

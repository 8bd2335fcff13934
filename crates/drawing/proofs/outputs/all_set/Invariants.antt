use mathlib.Core.Path.{◌≡◌}
use Prim.Native.Nat.{◌-◌}
use Rattle.drawing.specs.Outputs.{all_from}
use Rattle.drawing.proofs.outputs.all_set.Given as goal

abbrev pub invariant-loop-j : goal.invariant-loop-j
invariant-loop-j l = all_from l.numbers l.names.lines l.names.n l.t 0 ≡ all_from l.numbers l.names.lines l.names.n (l.t - l.j) l.j

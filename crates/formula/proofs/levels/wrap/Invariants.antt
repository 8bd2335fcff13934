use Rattle.formula.specs.Emit.{worked_at, inverted_once}
use Rattle.formula.specs.Text.{wrap_with}
use Prim.Native.Nat.{◌-◌}
use mathlib.Core.Path.{◌≡◌}
use Rattle.formula.proofs.levels.wrap.Given as goal

abbrev pub invariant-loop-i : goal.invariant-loop-i
invariant-loop-i l = wrap_with inverted_once l.s (l.to - l.at) l.at (worked_at l.initial.gates l.v) ≡ wrap_with inverted_once l.s (l.to - l.i) l.i (worked_at l.gates l.line)

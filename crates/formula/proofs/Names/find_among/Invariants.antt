use Rattle.formula.specs.Names.{find_from}
use Prim.Native.Nat.{◌-◌, ◌≤◌}
use mathlib.Core.Path.{◌≡◌}
use Rattle.formula.proofs.Names.find_among.Given as goal

abbrev pub invariant-loop-i : goal.invariant-loop-i
invariant-loop-i l = (l.from ≤ l.i) × (find_from l.self.low l.self.high l.self.lines l.a l.b (l.to - l.from) l.from ≡ find_from l.self.low l.self.high l.self.lines l.a l.b (l.to - l.i) l.i)

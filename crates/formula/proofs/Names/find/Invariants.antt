use Rattle.formula.specs.Names.{few_names, find_from, block}
use Prim.Native.Nat.{◌-◌, ◌*◌}
use mathlib.Core.Path.{◌≡◌}
use Rattle.formula.proofs.Names.find.Given as goal

abbrev pub invariant-loop-k : goal.invariant-loop-k
invariant-loop-k l = find_from l.self.low l.self.high l.self.lines l.a l.b (few_names l.self.n) 0 ≡ find_from l.self.low l.self.high l.self.lines l.a l.b (l.count - l.k * block) (l.k * block)

use mathlib.Core.Path.{◌≡◌}
use Prim.Native.Nat.{◌-◌}
use Rattle.formula.specs.Names.{part_of}
use Rattle.formula.proofs.keys.part.Given as goal

abbrev pub invariant-loop-i : goal.invariant-loop-i
invariant-loop-i l = part_of l.s (l.to - l.from) l.from 0 ≡ part_of l.s (l.to - l.i) l.i l.v

use mathlib.Core.Path.{◌≡◌}
use Prim.Native.Nat.{◌+◌, ◌-◌, ◌*◌}
use lib.ListN.{drop}
use Rattle.stored.specs.Reading.{answers, out_here}
use Rattle.stored.proofs.reader.check_outputs.Given as goal

abbrev pub invariant-loop-j : goal.invariant-loop-j
invariant-loop-j l = answers (out_here l.lines) 3 l.j (l.m - l.j) (drop (l.from + 3 * l.j) l.bytes) ≡ answers (out_here l.lines) 3 0 l.m (drop l.from l.bytes)

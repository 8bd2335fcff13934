use mathlib.Core.Path.{◌≡◌}
use Prim.Native.Nat.{◌+◌, ◌-◌, ◌*◌}
use lib.ListN.{drop}
use Rattle.stored.specs.Reading.{answers, gate_here}
use Rattle.stored.proofs.reader.check_gates.Given as goal

abbrev pub invariant-loop-j : goal.invariant-loop-j
invariant-loop-j l = answers (gate_here l.only) 5 (l.n + l.j) (l.g - l.j) (drop (5 + 5 * l.j) l.bytes) ≡ answers (gate_here l.only) 5 l.n l.g (drop 5 l.bytes)

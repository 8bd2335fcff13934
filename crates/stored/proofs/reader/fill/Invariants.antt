use mathlib.Core.Path.{◌≡◌}
use Rattle.stored.proofs.Accept.{fields}
use Rattle.stored.proofs.reader.fill.Given as goal

abbrev pub invariant-loop-j : goal.invariant-loop-j
invariant-loop-j l = (l.kinds ≡ fields 2 l.bytes l.j) × (l.left ≡ fields 3 l.bytes l.j) × (l.right ≡ fields 4 l.bytes l.j)

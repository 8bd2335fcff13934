use mathlib.Core.Path.{◌≡◌}
use mathlib.Core.List.{◌++◌}
use Prim.Native.Nat.{◌-◌}
use lib.ListN.{drop, replicate}
use Rattle.circuit.specs.Sizes.{most_outputs}
use Rattle.stored.specs.Stored.{records, out_in}
use Rattle.stored.proofs.reader.out_lines.Given as goal

abbrev pub invariant-loop-j : goal.invariant-loop-j
invariant-loop-j l = l.out ≡ records out_in 3 l.j (drop l.from l.bytes) ++ replicate (most_outputs - l.j) 0

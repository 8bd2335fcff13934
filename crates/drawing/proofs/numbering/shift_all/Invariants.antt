use Prim.Native.Nat.{ℕ}
use lib.ListN.{get_or}
use Rattle.circuit.specs.Sizes.{most_gates}
use Rattle.drawing.specs.Numbering.{shift_of}
use Rattle.drawing.proofs.Filling.{Filled}
use Rattle.drawing.proofs.numbering.shift_all.Given as goal

abbrev pub invariant-loop-k : goal.invariant-loop-k
invariant-loop-k l = Filled (λ (j : ℕ). shift_of l.n (get_or l.operands j 0)) most_gates l.r l.k

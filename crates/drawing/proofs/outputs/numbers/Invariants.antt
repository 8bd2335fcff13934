use Prim.Native.Nat.{ℕ, ◌≤◌}
use lib.ListN.{get_or}
use Rattle.formula.specs.Sizes.{most_names}
use Rattle.formula.specs.Names.{few_names}
use Rattle.drawing.specs.Outputs.{output_no}
use Rattle.drawing.proofs.Filling.{Filled}
use Rattle.drawing.proofs.outputs.numbers.Given as goal

abbrev pub invariant-loop-i : goal.invariant-loop-i
invariant-loop-i l = (l.i ≤ few_names l.book.names.n) × Filled (λ (k : ℕ). output_no l.s (get_or l.book.starts k 0)) most_names l.r l.i

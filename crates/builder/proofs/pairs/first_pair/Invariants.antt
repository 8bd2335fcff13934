use mathlib.Core.Path.{◌≡◌}
use Rattle.distance.specs.Base.{base_of}
use Rattle.builder.specs.Rule.{row, first_pair}
use Rattle.builder.proofs.TwoLines.{from_line, from_pair}
use Rattle.builder.proofs.pairs.first_pair.Given as goal

abbrev pub invariant-loop-j : goal.invariant-loop-j
invariant-loop-j l = let ls = base_of l.base.masks.now l.base.depths.now in first_pair ls (row l.t l.limit) ≡ from_pair ls l.t l.limit l.i l.j

abbrev pub invariant-loop-i : goal.invariant-loop-i
invariant-loop-i l = let ls = base_of l.base.masks.now l.base.depths.now in first_pair ls (row l.t l.limit) ≡ from_line ls l.t l.limit l.i

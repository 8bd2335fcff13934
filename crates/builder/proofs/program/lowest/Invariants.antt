use mathlib.Core.Path.{◌≡◌}
use lib.ListN.{drop}
use Rattle.distance.specs.Base.{base_of}
use Rattle.builder.specs.Rule.{row, lowest, lowest_from}
use Rattle.builder.proofs.program.lowest.Given as goal

abbrev pub invariant-loop-i : goal.invariant-loop-i
invariant-loop-i l = let ls = base_of l.base.masks.now l.base.depths.now in lowest ls (row l.t l.limit) ≡ lowest_from (row l.t l.limit) l.i (drop l.i ls)

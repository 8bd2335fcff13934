use mathlib.Core.Path.{◌≡◌}
use Prim.Native.Nat.{◌-◌, max}
use Rattle.distance.specs.Base.{base_of}
use Rattle.distance.specs.Distance.{gap_from}
use Rattle.distance.specs.Table.{Below, Ones}
use Rattle.distance.proofs.by_sizes.Given as goal

abbrev pub invariant-loop-g : goal.invariant-loop-g
invariant-loop-g l = let ls = base_of l.base.masks.now l.base.depths.now in record {
  passed : gap_from l.n 0 l.t l.left ls ≡ gap_from (l.n - l.g) l.g l.t l.left ls;
  below : Below l.h ls (max l.g 2) l.left;
  ones : Ones l.h ls;
}

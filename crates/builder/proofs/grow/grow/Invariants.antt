use Prim.Native.Nat.{◌-◌}
use Rattle.builder.specs.Kept.{base, SoFar, Tabled}
use Rattle.builder.proofs.grow.grow.Given as goal

abbrev pub invariant-loop-s : goal.invariant-loop-s
invariant-loop-s l = record { so_far : SoFar (base l.fn.s) l.rows.masks.now l.rows.limits.now l.s; tabled : Tabled l.rows.masks.now l.rows.limits.now l.s l.h }

abbrev pub decreases-loop-s : goal.decreases-loop-s
decreases-loop-s l = 224 - l.s.count

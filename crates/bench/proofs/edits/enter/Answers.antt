-- `bench::edits::enter` meets its contract. Assumes nothing.
use native.Mathlib.Omega.{arith}
use mathlib.Core.Path.{ap, sym}
use mathlib.Core.Bool.{Bool, cond}
use Prim.Native.Nat.{◌+◌}
use lib.ListN.{set}
use Rattle.bench.specs.Parts.{entered}
use Rattle.bench.proofs.edits.enter.Goals as goal

pub bounds-target-m : goal.bounds-target-m
bounds-target-m c = omega (arith, c.requires.0, c.requires.2 c.if-matrix.true)

pub returns-then-matrix : goal.returns-then-matrix
unfolding entered
returns-then-matrix c = let a = c.args in
    sym (ap (λ (t : Bool). let l = set a.bytes a.i a.value in cond t (set l (a.m + a.i) a.constant) l) c.if-matrix.true)

pub returns-else-matrix : goal.returns-else-matrix
unfolding entered
returns-else-matrix c = let a = c.args in
    sym (ap (λ (t : Bool). let l = set a.bytes a.i a.value in cond t (set l (a.m + a.i) a.constant) l) c.if-matrix.false)

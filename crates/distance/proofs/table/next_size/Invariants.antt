use Rattle.distance.specs.Table.{Sized}
use Rattle.distance.proofs.table.next_size.Given as goal

abbrev pub invariant-loop-m : goal.invariant-loop-m
invariant-loop-m l = Sized l.initial.h l.h l.k l.left l.m

use Prim.Native.Nat.{◌*◌}
use Rattle.distance.proofs.Entries.{Part}
use Rattle.distance.proofs.table.take_into.Given as goal

abbrev pub invariant-loop-q : goal.invariant-loop-q
invariant-loop-q l = Part l.initial.h l.h l.m l.c (l.q * 4) (l.first * 4) (l.end * 4)

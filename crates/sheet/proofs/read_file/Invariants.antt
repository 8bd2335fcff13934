use Rattle.sheet.proofs.Laws.{Reading}
use lib.ListN.{length}
use Prim.Native.Nat.{◌-◌}
use Rattle.sheet.proofs.read_file.Given as goal

abbrev pub invariant-loop-book : goal.invariant-loop-book
invariant-loop-book l = Reading l.s l.p l.book

abbrev pub decreases-loop-book : goal.decreases-loop-book
decreases-loop-book l = length l.s - l.p

use Prim.Native.Nat.{◌+◌, ◌*◌, ◌≤◌}
use Rattle.text.specs.Putting.{Put}
use Rattle.listing.specs.Printed.{lines_to}
use Rattle.talk.specs.Saying.{group_in}
use Rattle.talk.proofs.held.put_groups.Given as goal

abbrev pub invariant-loop-i : goal.invariant-loop-i
invariant-loop-i l = record {
  so_far : l.next ≤ l.at + 80 * l.i;
  put : Put l.initial.room l.at (lines_to (group_in l.b) l.i) l.room l.next;
}

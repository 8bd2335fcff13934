use Rattle.std.proofs.Common.{◌≤◌, ◌+◌, ◌*◌, take}
use Rattle.text.specs.Numbers.{numbers_text}
use Rattle.text.specs.Putting.{Put}
use Rattle.text.proofs.put_numbers.Given as goal

abbrev pub invariant-loop-x : goal.invariant-loop-x
invariant-loop-x l = record {
  so_far : l.next ≤ l.at + 6 * l.x-index;
  put : Put l.initial.room l.at (numbers_text (take l.x-index l.numbers)) l.room l.next;
}

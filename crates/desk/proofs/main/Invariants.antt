-- The loop's invariant: the line that is read begins, is looked at and ends in this order within the buffer.
use Rattle.std.proofs.Common.{◌≡◌, ◌≤◌, length}
use Rattle.desk.proofs.main.Given as goal

abbrev pub invariant-loop : goal.invariant-loop
invariant-loop l = (length l.buf ≡ 65538) × (l.from ≤ l.seen) × (l.seen ≤ l.to) × (l.to ≤ 65538)

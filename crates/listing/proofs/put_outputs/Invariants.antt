use Rattle.std.proofs.Common.{ℕ, ◌+◌, ◌*◌, ◌≤◌}
use Rattle.circuit.specs.Structs.{out_of}
use Rattle.text.specs.Putting.{Put}
use Rattle.listing.specs.Printed.{output_line, lines_to}
use Rattle.listing.proofs.put_outputs.Given as goal

abbrev pub invariant-loop-j : goal.invariant-loop-j
invariant-loop-j l = record {
  so_far : l.next ≤ l.at + 12 * l.j;
  put : Put l.initial.room l.at (lines_to (λ (j : ℕ). output_line l.c.n j (out_of l.c j)) l.j) l.room l.next;
}

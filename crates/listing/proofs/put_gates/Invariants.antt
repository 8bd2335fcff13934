use Rattle.std.proofs.Common.{ℕ, ◌+◌, ◌*◌, ◌≤◌}
use Rattle.circuit.specs.Structs.{gate_of}
use Rattle.text.specs.Putting.{Put}
use Rattle.listing.specs.Printed.{gate_line, lines_to}
use Rattle.listing.proofs.put_gates.Given as goal

abbrev pub invariant-loop-k : goal.invariant-loop-k
invariant-loop-k l = record {
  so_far : l.next ≤ l.at + 22 * l.k;
  put : Put l.initial.room l.at (lines_to (λ (k : ℕ). gate_line l.c.n k (gate_of l.c k)) l.k) l.room l.next;
}

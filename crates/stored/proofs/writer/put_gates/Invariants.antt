use mathlib.Core.Path.{◌≡◌}
use Rattle.circuit.specs.Lines.{upto}
use Rattle.circuit.specs.Structs.{gate_of}
use Rattle.stored.specs.Stored.{gate_bytes}
use Rattle.stored.specs.Writing.{over}
use Rattle.stored.proofs.writer.put_gates.Given as goal

abbrev pub invariant-loop-j : goal.invariant-loop-j
invariant-loop-j l = l.room ≡ over l.initial.room 5 (gate_bytes (upto (gate_of l.c) l.j))

use mathlib.Core.Path.{◌≡◌}
use Rattle.circuit.specs.Lines.{upto}
use Rattle.circuit.specs.Structs.{out_of}
use Rattle.stored.specs.Stored.{out_bytes}
use Rattle.stored.specs.Writing.{over}
use Rattle.stored.proofs.writer.put_outs.Given as goal

abbrev pub invariant-loop-j : goal.invariant-loop-j
invariant-loop-j l = l.room ≡ over l.initial.room l.from (out_bytes (upto (out_of l.c) l.j))

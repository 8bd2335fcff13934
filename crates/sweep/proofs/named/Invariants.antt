use mathlib.Core.Path.{◌≡◌}
use Rattle.circuit.specs.Lines.{upto}
use Rattle.circuit.specs.Structs.{out_of}
use Rattle.sweep.specs.Parts.{marked}
use Rattle.sweep.proofs.named.Given as goal

abbrev pub invariant-loop-line : goal.invariant-loop-line
invariant-loop-line l = l.marks ≡ marked (upto (out_of l.fn.c) l.line-index)

use Prim.Native.Nat.{ℕ}
use Rattle.circuit.specs.Sizes.{most_outputs}
use Rattle.drawing.specs.Outputs.{out_line, line_or0}
use Rattle.drawing.specs.Numbering.{shift_of}
use Rattle.drawing.proofs.Filling.{Filled}
use Rattle.drawing.proofs.numbering.out_lines.Given as goal

abbrev pub invariant-loop-j : goal.invariant-loop-j
invariant-loop-j l = Filled (λ (k : ℕ). shift_of l.n (line_or0 (out_line l.numbers l.names.lines l.names.n k))) most_outputs l.r l.j

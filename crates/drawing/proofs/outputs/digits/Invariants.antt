use Rattle.drawing.proofs.Digits.{Counting}
use Rattle.drawing.proofs.outputs.digits.Given as goal

abbrev pub invariant-loop-i : goal.invariant-loop-i
invariant-loop-i l = Counting l.s l.from l.e l.v l.i

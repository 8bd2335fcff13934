use mathlib.Core.Path.{◌≡◌}
use Rattle.report.specs.Judged.{differences}
use Rattle.report.proofs.differing.Given as goal

abbrev pub invariant-loop-j : goal.invariant-loop-j
invariant-loop-j l = l.found ≡ differences l.b.values l.b.outputs l.b.wanted l.j

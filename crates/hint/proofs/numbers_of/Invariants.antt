use mathlib.Core.Path.{◌≡◌}
use Rattle.hint.specs.Parts.{numbered}
use Rattle.hint.proofs.numbers_of.Given as goal

abbrev pub invariant-loop-k : goal.invariant-loop-k
invariant-loop-k l = l.numbers ≡ numbered l.lines l.places l.k

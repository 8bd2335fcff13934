use mathlib.Core.Path.{◌≡◌}
use mathlib.Core.Bool.{Bool}
use mathlib.Core.List.{List}
use Prim.Native.Nat.{ℕ}
use Rattle.circuit.specs.declared.Words.{Words}
use Rattle.circuit.specs.Sizes.{most_inputs, most_outputs}
use Rattle.circuit.specs.Gate.{no_words}
use Rattle.circuit.specs.Lines.{upto, padded}
use Rattle.targets.specs.Wanted.{wanted_words}
use Rattle.targets.specs.Target.{target_by}
use Rattle.targets.proofs.wanted.wanted_words.Given as goal

abbrev pub want : Bool → List ℕ → ℕ → ℕ → Words
want only bytes m = wanted_words (target_by only most_inputs m bytes)

abbrev pub invariant-loop-j : goal.invariant-loop-j
invariant-loop-j l = l.wanted ≡ padded most_outputs no_words (upto (want l.only l.target l.count) l.j)

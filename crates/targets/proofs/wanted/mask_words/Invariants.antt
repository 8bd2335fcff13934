use mathlib.Core.Path.{◌≡◌}
use Rattle.targets.specs.Wanted.{mask_words}
use Rattle.targets.proofs.wanted.mask_words.Given as goal

abbrev pub invariant-loop-i : goal.invariant-loop-i
invariant-loop-i l = l.w ≡ mask_words l.i l.mask

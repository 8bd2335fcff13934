-- `targets::rules::row_fits` meets its contract. Assumes nothing.
use borrow.Author.Tests.{tests}
use native.Mathlib.Omega.{arith}
use Rattle.targets.specs.Target.{row_is_sound}
use Rattle.std.proofs.Math.Bool.{and-true, and-false}
use Rattle.targets.proofs.rules.row_fits.Goals as goal

pub returns-then-constant-lt2 : goal.returns-then-constant-lt2
unfolding row_is_sound
returns-then-constant-lt2 c = grind (arith, tests, and-true)

pub returns-else-constant-lt2 : goal.returns-else-constant-lt2
unfolding row_is_sound
returns-else-constant-lt2 c = grind (arith, tests, and-false)

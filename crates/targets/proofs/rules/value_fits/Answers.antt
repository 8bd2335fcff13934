-- `targets::rules::value_fits` meets its contract. Assumes nothing.
use borrow.Author.Tests.{tests}
use native.Mathlib.Omega.{arith}
use Rattle.targets.specs.Target.{entry_fits}
use Rattle.std.proofs.Math.Bool.{and-true}
use Rattle.targets.proofs.rules.value_fits.Goals as goal

pub returns-then-constant-eq0 : goal.returns-then-constant-eq0
unfolding entry_fits
returns-then-constant-eq0 c = grind (arith, tests, and-true)

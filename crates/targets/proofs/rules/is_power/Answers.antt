-- `targets::rules::is_power` meets its contract. Assumes nothing.
use borrow.Author.Rules.{rules}
use borrow.Author.Tests.{le-ltb}
use mathlib.Core.Path.{◌∙◌}
use Rattle.targets.proofs.Fitting.{power_shift, power_past}
use Rattle.targets.proofs.rules.is_power.Goals as goal

pub returns-then-n-lt64 : goal.returns-then-n-lt64
returns-then-n-lt64 c = power_shift _ _ c.if-n-lt64.true

pub returns-else-n-lt64 : goal.returns-else-n-lt64
returns-else-n-lt64 c = le-ltb c.args.n 64 c.if-n-lt64.false ∙ power_past _ _ c.if-n-lt64.false (search rules)

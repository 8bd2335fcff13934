-- `targets::rules::is_below` meets its contract. Assumes nothing.
use borrow.Author.Rules.{rules}
use borrow.Author.Tests.{le-leb}
use mathlib.Core.Path.{◌∙◌}
use Rattle.targets.proofs.Fitting.{below_shift, below_past}
use Rattle.targets.proofs.rules.is_below.Goals as goal

pub returns-then-n-ge64 : goal.returns-then-n-ge64
returns-then-n-ge64 c = le-leb 64 c.args.n c.if-n-ge64.true ∙ below_past _ _ c.if-n-ge64.true (search rules)

pub returns-else-n-ge64 : goal.returns-else-n-ge64
returns-else-n-ge64 c = below_shift _ _ c.if-n-ge64.false

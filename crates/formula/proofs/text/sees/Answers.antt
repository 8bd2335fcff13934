use borrow.Author.Tests.{le-ltb}
use mathlib.Core.Path.{refl}
use Rattle.formula.proofs.Laws.{seen_here, seen_past}
use Rattle.formula.proofs.text.sees.Goals as goal

pub returns-then-p-s : goal.returns-then-p-s
returns-then-p-s c = seen_here _ _ _ _ c.if-p-s.true refl

pub returns-else-p-s : goal.returns-else-p-s
returns-else-p-s c = seen_past _ _ _ _ c.if-p-s.false (le-ltb _ _ c.if-p-s.false)

use borrow.Author.Tests.{lt-ltb, le-ltb}
use Rattle.formula.specs.Names.{middle}
use Rattle.formula.proofs.keys.half.Goals as goal

pub returns-then-span-gt8 : goal.returns-then-span-gt8
unfolding middle
returns-then-span-gt8 c = rw (← c.span.ensures, lt-ltb _ _ c.if-span-gt8.true)

pub returns-else-span-gt8 : goal.returns-else-span-gt8
unfolding middle
returns-else-span-gt8 c = rw (← c.span.ensures, le-ltb _ _ c.if-span-gt8.false)

use Rattle.formula.specs.Names.{in_block}
use native.Mathlib.Omega.{arith}
use borrow.Author.Tests.{lt-ltb, le-ltb}
use Rattle.formula.proofs.keys.block_end.Goals as goal

pub returns-then-span-lt-BLOCK : goal.returns-then-span-lt-BLOCK
unfolding in_block
returns-then-span-lt-BLOCK c = rw (← c.span.ensures, lt-ltb _ _ c.if-span-lt-BLOCK.true)

pub returns-else-span-lt-BLOCK : goal.returns-else-span-lt-BLOCK
unfolding in_block
returns-else-span-lt-BLOCK c = rw (← c.span.ensures, le-ltb _ _ c.if-span-lt-BLOCK.false) (omega arith)

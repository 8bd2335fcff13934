use borrow.Author.Tests.{lt-ltb, le-ltb}
use Rattle.formula.specs.Emit.{new_line}
use Rattle.formula.proofs.emit.new_line.Goals as goal

-- src/emit.rt:85:1
pub returns-then-count-lt-GATES : goal.returns-then-count-lt-GATES
unfolding new_line
returns-then-count-lt-GATES c = simp (lt-ltb _ _ c.if-count-lt-GATES.true)

-- src/emit.rt:85:1
pub returns-else-count-lt-GATES : goal.returns-else-count-lt-GATES
unfolding new_line
returns-else-count-lt-GATES c = simp (le-ltb _ _ c.if-count-lt-GATES.false)

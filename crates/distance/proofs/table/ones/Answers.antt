-- `ones` meets its contract: at i the lines below i are entered.
use borrow.Author.Rules.{rules}
use Rattle.distance.proofs.BySizes.{entered_none, entered_more, entered_end}
use Rattle.distance.proofs.table.ones.Goals as goal

pub loop-i-init : goal.loop-i-init
loop-i-init c = rw c.no_lines-h.ensures (entered_none _ _)

pub loop-i-preserved : goal.loop-i-preserved
loop-i-preserved c = entered_more _ _ _ _ _ _ (search rules) c.cost.ensures c.lower_one.ensures c.loop-i.invariant

pub returns : goal.returns
returns c = entered_end _ _ _ _ c.loop-i-test.false c.loop-i.invariant

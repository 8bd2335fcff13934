use Rattle.std.proofs.lemmas.Grind.{div_ceil_times}
use Rattle.formula.proofs.Table.{find_end, block_hit, block_miss}
use native.Mathlib.Nat.{sub-zero}
use native.Mathlib.Omega.{arith}
use mathlib.Core.Path.{sym, ◌∙◌}
use Rattle.formula.proofs.Names.find.Goals as goal

pub loop-k-init : goal.loop-k-init
loop-k-init c = rw (c.len-count.ensures.is, sub-zero)

pub find_block-requires-clause-within : goal.find_block-requires-clause-within
find_block-requires-clause-within c = omega (arith, c.len-count.ensures.most, c.loop-k-test.true, c.div_ceil-k-end.ensures)

pub returns-in-Some : goal.returns-in-Some
returns-in-Some c = sym (c.loop-k.invariant ∙ block_hit _ _ _ _ _ _ _ _ _ c.find_block.ensures c.in-Some.is ∙ c.in-Some.is)

pub loop-k-preserved : goal.loop-k-preserved
loop-k-preserved c = c.loop-k.invariant ∙ block_miss _ _ _ _ _ _ _ _ _ c.find_block.ensures c.in_default.is (omega arith)

pub returns : goal.returns
returns c = sym (c.loop-k.invariant ∙ find_end _ _ _ _ _ _ _ (omega (arith, c.loop-k-test.false, c.div_ceil-k-end.ensures, div_ceil_times c.len-count.result 8)))

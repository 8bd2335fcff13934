use Prim.Native.Nat.{◌-◌}
use Rattle.formula.proofs.Table.{few_in_block}
use native.Mathlib.Omega.{arith}
use mathlib.Core.Path.{sym, ◌∙◌}
use Rattle.formula.proofs.Names.find_block.Goals as goal

pub find_among-requires : goal.find_among-requires
find_among-requires c = omega (arith, c.block_end.ensures, few_in_block (c.args.count - c.args.i), c.requires.within)

pub returns-then-near_key : goal.returns-then-near_key
returns-then-near_key c = c.find_among.ensures ∙ rw c.block_end.ensures

pub returns-else-near_key : goal.returns-else-near_key
returns-else-near_key c = sym (c.near_key.ensures c.if-near_key.false _ _ (few_in_block _))

-- `misses` meets its contract: the place and a byte make an index below 2048, and the sum fits as no entry is above "none".
use mathlib.Core.Path.{sym}
use Rattle.builder.proofs.Lookup.{misses_near, misses-far}
use Rattle.builder.proofs.pairs.misses.Goals as goal

pub returns-then-h-place : goal.returns-then-h-place
returns-then-h-place c = sym (misses_near c.args.h.now c.args.line.mask c.args.line.cost c.args.place c.args.room c.if-h-place.true)

pub returns-else-h-place : goal.returns-else-h-place
returns-else-h-place c = sym (misses-far c.args.h.now c.args.line.mask c.args.line.cost c.args.place c.args.room c.if-h-place.false)

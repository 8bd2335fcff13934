-- `lowest` meets its contract: the lowest line is the lowest from here.
use mathlib.Core.Path.{sym, ◌∙◌}
use Rattle.builder.specs.Rule.{row}
use Rattle.builder.proofs.Steps.{low_hit, low_other, low_deep, low_end}
use Rattle.builder.proofs.program.lowest.Goals as goal
use Rattle.builder.proofs.program.lowest.Goals.{else-mask-t-via-then-mask-t+else-base-i, else-mask-t-via-else-mask-t}

pub returns-then-base-i : goal.returns-then-base-i
returns-then-base-i c = let b = c.args.base.now in sym (c.loop-i.invariant ∙ low_hit b.masks.now b.depths.now (row c.args.t c.args.limit) c.loop-i.i b.even c.loop-i-test.true c.if-mask-t.true c.if-base-i.true)

pub loop-i-preserved : goal.loop-i-preserved
loop-i-preserved c = let b = c.args.base.now in
    let r = row c.args.t c.args.limit in
    c.loop-i.invariant
    ∙ elim c.else-mask-t.branch [ else-mask-t-via-then-mask-t+else-base-i w ↦ low_deep b.masks.now b.depths.now r c.loop-i.i b.even c.loop-i-test.true w.if-mask-t.true w.if-base-i.false | else-mask-t-via-else-mask-t w ↦ low_other b.masks.now b.depths.now r c.loop-i.i b.even c.loop-i-test.true w.if-mask-t.false ]

pub returns : goal.returns
returns c = let b = c.args.base.now in sym (c.loop-i.invariant ∙ low_end b.masks.now b.depths.now (row c.args.t c.args.limit) c.loop-i.i b.even c.loop-i-test.false)

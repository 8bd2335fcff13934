-- `first_pair` meets its contract: the first pair from the start is the first pair from here.
use mathlib.Core.Path.{sym, ◌∙◌}
use native.Mathlib.Omega.{arith}
use Rattle.distance.specs.Base.{base_of}
use Rattle.builder.proofs.Lists.{lines_length}
use Rattle.builder.proofs.Choice.{mask_at, depth_at}
use Rattle.builder.proofs.TwoLines.{line_open, line_end, pair_hit, pair_miss, pair_end}
use Rattle.builder.proofs.pairs.first_pair.Goals as goal
use Rattle.builder.proofs.pairs.first_pair.Goals.{else-base-i-via-then-base-i+else-deeper-limit, else-base-i-via-else-base-i}

pub loop-j-init : goal.loop-j-init
loop-j-init c = let a = c.args in
    c.loop-i.invariant
    ∙ line_open (base_of a.base.now.masks.now a.base.now.depths.now) a.t a.limit c.loop-i.i (omega (arith, c.loop-i-test.true, lines_length a.base.now.masks.now a.base.now.depths.now c.args.base.now.even))

pub returns-then-deeper-limit : goal.returns-then-deeper-limit
returns-then-deeper-limit c = let a = c.args in
    let i = c.loop-i.i in
    let j = c.loop-j.j in
    c.loop-j.invariant
    ∙ pair_hit (base_of a.base.now.masks.now a.base.now.depths.now) a.t a.limit i j (omega (arith, c.loop-j-test.true, lines_length a.base.now.masks.now a.base.now.depths.now c.args.base.now.even))
    (mask_at a.base.now.masks.now a.base.now.depths.now i j c.args.base.now.even ∙ c.if-base-i.true)
    (omega (arith, depth_at a.base.now.masks.now a.base.now.depths.now i j c.deeper.result c.args.base.now.even c.args.base.now.shallow c.deeper.ensures, c.if-deeper-limit.true))

pub loop-j-preserved : goal.loop-j-preserved
loop-j-preserved c = let a = c.args in
    let i = c.loop-i.i in
    let j = c.loop-j.j in
    c.loop-j.invariant
    ∙ pair_miss (base_of a.base.now.masks.now a.base.now.depths.now) a.t a.limit i j (omega (arith, c.loop-j-test.true, lines_length a.base.now.masks.now a.base.now.depths.now c.args.base.now.even))
    (λ e d.
    elim c.else-base-i.branch [ else-base-i-via-then-base-i+else-deeper-limit w ↦ omega (arith, d, depth_at a.base.now.masks.now a.base.now.depths.now i j w.deeper.result c.args.base.now.even c.args.base.now.shallow w.deeper.ensures, w.if-deeper-limit.false) | else-base-i-via-else-base-i w ↦ w.if-base-i.false (sym (mask_at a.base.now.masks.now a.base.now.depths.now i j c.args.base.now.even) ∙ e) ])

pub loop-i-preserved : goal.loop-i-preserved
loop-i-preserved c = let a = c.args in
    c.loop-j.invariant
    ∙ pair_end (base_of a.base.now.masks.now a.base.now.depths.now) a.t a.limit c.loop-i.i c.loop-j.j (omega (arith, c.loop-j-test.false, lines_length a.base.now.masks.now a.base.now.depths.now c.args.base.now.even))

pub returns : goal.returns
returns c = let a = c.args in
    c.loop-i.invariant
    ∙ line_end (base_of a.base.now.masks.now a.base.now.depths.now) a.t a.limit c.loop-i.i (omega (arith, c.loop-i-test.false, lines_length a.base.now.masks.now a.base.now.depths.now c.args.base.now.even))

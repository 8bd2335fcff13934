-- `later` meets its contract: what can be done from `from` on is what can be done from i on. The measure of the recursion is k.
use Rattle.std.proofs.Common.{arith, rules, ◌∙◌}
use Rattle.std.specs.Int.Bits.{xor_lt}
use Rattle.distance.proofs.Search.{can_end, passed_on, hit, miss, dear}
use Rattle.distance.proofs.Entries.{cost_is, pruned}
use Rattle.distance.proofs.Lines.{some_found, none_found, searched_zero, searched_not, searched_more, searched_none}
use Rattle.distance.proofs.sets.+later.Goals as goal
use Rattle.distance.proofs.sets.+later.Goals.{then-c-left+then-least_of-left+in_default, else-c-left, else-c-left-via-then-c-left+else-least_of-left, else-c-left-via-else-c-left}

pub returns-then-t-eq0 : goal.returns-then-t-eq0
returns-then-t-eq0 t c = searched_zero _ _ _ _ _ _ _ c.if-k-eq0.true c.if-t-eq0.true

pub returns-else-t-eq0 : goal.returns-else-t-eq0
returns-else-t-eq0 t c = searched_not _ _ _ _ _ _ _ c.if-k-eq0.true c.if-t-eq0.false

pub returns-in-Some : goal.returns-in-Some
returns-in-Some t c =
    let base = c.args.base.now in
    let at = c.loop-i in
    let told = some_found _ _ _ c.in-Some.ensures in
    let found = hit _ _ _ _ _ _ _ base.even c.loop-i-test.true c.if-k-eq0.false (cost_is _ _ (base.shallow at.i) c.cost-c.ensures) (omega (arith, c.if-c-left.true)) told.0 in
    searched_more _ _ _ _ _ _ _ _ _ _ (at.invariant.0 ∙ found.0, at.invariant.1 ∙ found.1) told.1

pub loop-i-preserved : goal.loop-i-preserved
loop-i-preserved t c =
    let base = c.args.base.now in
    let at = c.loop-i in
    let w = cost_is _ _ (base.shallow at.i) c.cost-c.ensures in
    let turn = passed_on _ _ _ _ _ _ _ _ at.invariant in
    let passed = miss _ _ _ _ _ _ _ base.even c.loop-i-test.true c.if-k-eq0.false w in
    elim c.if-c-left.branch [
      | then-c-left+then-least_of-left+in_default v ↦ turn (passed (omega (arith, v.if-c-left.true)) (none_found _ _ _ v.later.ensures v.in_default.not-Some))
      | else-c-left v ↦
          elim v.else-c-left.branch [
            | else-c-left-via-then-c-left+else-least_of-left u ↦
                turn
                (passed (omega (arith, u.if-c-left.true))
                (pruned _ _ _ _ _ _ _ _ _ _ c.requires.table (omega arith) (xor_lt 8 _ _ (search rules) c.ranges.t.fits) (omega arith) (omega (arith, c.requires.near)) u.least_of.ensures (omega (arith, u.if-least_of-left.false))))
            | else-c-left-via-else-c-left u ↦ turn (dear _ _ _ _ _ _ _ base.even c.loop-i-test.true c.if-k-eq0.false w (omega (arith, u.if-c-left.false)))
          ]
    ]

pub returns : goal.returns
returns t c = let at = c.loop-i in searched_none _ _ _ _ _ _ _ (at.invariant.0 ∙ can_end _ _ _ _ _ _ (omega (arith, c.loop-i-test.false)) (omega arith))

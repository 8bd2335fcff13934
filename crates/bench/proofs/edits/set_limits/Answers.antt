-- `set_limits`: where something is open its limits are the ones that are given. Assumes nothing.
use mathlib.Core.Path.{◌∙◌, sym}
use Rattle.bench.specs.State.{limits}
use Rattle.bench.specs.Held.{limited}
use Rattle.bench.proofs.EditLaws.{limits_open, limits_shut}
use Rattle.bench.proofs.edits.set_limits.Goals as goal

pub returns-else-is_standing : goal.returns-else-is_standing
returns-else-is_standing c = let a = c.args in
    limits_shut a.bench (limits a.gates a.depth a.ands) (sym c.is_standing.ensures ∙ c.if-is_standing.false)

pub returns-then-is_standing : goal.returns-then-is_standing
returns-then-is_standing c = let a = c.args in
    limits_open a.bench (limits a.gates a.depth a.ands) _ (sym c.is_standing.ensures ∙ c.if-is_standing.true)
    (λ i. limited a.bench (limits (c.from.ensures i) (c.from-then-is_standing.ensures i) (c.from-then-is_standing-2.ensures i)))

-- `by_sizes` meets its contract: the first size from 1 on is the first size from g + 1 on.
use mathlib.Core.List.{List}
use mathlib.Core.Path.{sym, ◌∙◌, subst}
use Prim.Native.Nat.{ℕ, ◌+◌, max}
use native.Mathlib.Nat.{sub-zero}
use native.Mathlib.Omega.{arith}
use Rattle.distance.specs.Base.{base_of}
use Rattle.distance.specs.Table.{Below, Ones}
use Rattle.distance.proofs.Sizes.{size_hit, size_miss, size_end}
use Rattle.distance.proofs.Entries.{cost_is, cost_near}
use Rattle.distance.proofs.BySizes.{below_two, below_next, size_filled, size_there}
use Rattle.distance.proofs.Lines.{some_found, none_found, answer_found, answer_none}
use Rattle.distance.proofs.by_sizes.Goals as goal
use Rattle.distance.proofs.by_sizes.Goals.{Joined-g-gt1, else-g-gt1, then-g-gt1}

pub loop-g-init : goal.loop-g-init
loop-g-init c = record { passed = simp sub-zero; below = below_two _ _ _ (cost_near _ _ c.requires.shallow c.cost-left.ensures) c.ones-h.ensures; ones = c.ones-h.ensures }

-- what the array has before the search
abbrev Has : Joined-g-gt1 → List ℕ → Type 0
Has c h =
    let base = c.args.base.now in
    let left = c.cost-left.result in
    Below h (base_of base.masks.now base.depths.now) (max (c.loop-g.g + 1) 2) left × Ones h (base_of base.masks.now base.depths.now)

-- the size was filled, or was there
has : (c : Joined-g-gt1) → Has c c.if-g-gt1.h
has c =
    let at = c.loop-g.invariant in
    elim c.if-g-gt1.branch [
      | then-g-gt1 w ↦ subst (Has c) (sym w.h-is) (size_filled _ _ _ _ _ w.if-g-gt1.true (cost_near _ _ c.requires.shallow c.cost-left.ensures) (rw w.from.ensures at w.next_size.ensures) at.below at.ones)
      | else-g-gt1 w ↦ subst (Has c) (sym w.h-is) (size_there _ _ _ _ (omega (arith, w.if-g-gt1.false)) at.below, at.ones)
    ]

pub later-requires-clause-table : goal.later-requires-clause-table
later-requires-clause-table c = below_next _ _ _ _ (has (goal.at.later-requires-clause-table c).Joined-g-gt1).0

pub returns-in-Some : goal.returns-in-Some
returns-in-Some c =
    let told = c.in-Some.ensures in
    let small = c.loop-g-test.true in
    rw c.from-in-Some.ensures
    (answer_found _ _ _ _ _ _ (cost_is _ _ c.requires.shallow c.cost-left.ensures) _ _ (omega (arith, small, c.requires.few_inputs))
    (c.loop-g.invariant.passed ∙ size_hit _ _ _ _ _ _ small (some_found _ _ _ told).0) told)

pub loop-g-preserved : goal.loop-g-preserved
loop-g-preserved c =
    let none = none_found _ _ _ c.later.ensures c.in_default.not-Some in
    let filled = has (goal.at.loop-g-preserved c).Joined-g-gt1 in
    record { passed = c.loop-g.invariant.passed ∙ size_miss _ _ _ _ _ _ c.loop-g-test.true none; below = filled.0; ones = filled.1 }

pub returns : goal.returns
returns c = let base = c.args.base.now in answer_none base.masks.now base.depths.now c.args.n c.args.t c.args.d _ (cost_is _ _ c.requires.shallow c.cost-left.ensures) (c.loop-g.invariant.passed ∙ size_end _ _ _ _ _ c.loop-g-test.false)

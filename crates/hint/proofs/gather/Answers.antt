-- `hint::gather` meets its contract. The invariant: the base of the lines so far. Assumes nothing.
use borrow.Author.Rules.{rules}
use native.Mathlib.Nat.{mod-eq_of_lt}
use native.Mathlib.Omega.{arith}
use mathlib.Core.Path.{◌≡◌, ap, ◌∙◌}
use Rattle.hint.specs.Parts.{gathered}
use Rattle.hint.proofs.Gathering.{gathered_none, gathered_skip, gathered-put}
use Rattle.hint.proofs.gather.Goals as goal
use Rattle.hint.proofs.gather.Goals.{else-depths-i-le15, then-depths-i-le15}

pub loop-i-init : goal.loop-i-init
loop-i-init c = (search rules, gathered_none _ _)

pub loop-i-preserved : goal.loop-i-preserved
loop-i-preserved c = let i = c.loop-i.i in
    let t = c.loop-i.invariant.1 in
    elim c.if-depths-i-le15.branch [
      | then-depths-i-le15 w ↦ (
        omega (arith, w.taken-is),
        (λ z. record { masks = w.base_masks-is z; depths = w.base_depths-is z; lines = w.lines-is z; count = w.taken-is z })
            ∙ gathered-put _ _ i _ _ _ c.loop-i.taken w.low16.result w.if-depths-i-le15.true (omega arith) (w.low16.ensures ∙ mod-eq_of_lt (omega arith)) t,
      )
      | else-depths-i-le15 w ↦ (
        omega (arith, w.taken-is),
        (λ z. record { masks = w.base_masks-is z; depths = w.base_depths-is z; lines = w.lines-is z; count = w.taken-is z }) ∙ t ∙ gathered_skip _ _ i w.if-depths-i-le15.false,
      )
    ]

pub returns : goal.returns
returns c = let e : c.loop-i.i ≡ c.args.count = omega arith in
    c.loop-i.invariant.1 ∙ ap (gathered _ _) e

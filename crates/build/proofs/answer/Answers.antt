-- `build::answer` meets its contract. Assumes nothing.
use mathlib.Core.Path.{◌≡◌, ◌∙◌}
use Prim.Native.Nat.{◌-◌}
use native.Mathlib.Omega.{arith}
use lib.ListN.{length, take, drop, length-drop}
use lib.Seq.{take_all}
use borrow.Author.Rules.{rules}
use Rattle.builder.specs.Call.{plan_of}
use Rattle.text.proofs.Putting.{put_as, put_free}
use Rattle.build.proofs.Answering.{too_short, other_length, is_planned, plan-text, plan_fits}
use Rattle.build.proofs.answer.Goals as goal

pub returns-then-input-lt3-clause-put : goal.returns-then-input-lt3-clause-put
returns-then-input-lt3-clause-put c = put_as (too_short c.args.input.now c.if-input-lt3.true) (put_free (search rules) c.put_refused.ensures)

pub returns-else-input-from-clause-put : goal.returns-else-input-from-clause-put
returns-else-input-from-clause-put c =
    put_as (other_length c.args.input.now c.from.result c.from.ensures c.if-input-lt3.false c.if-input-from.false) (put_free (search rules) c.put_refused-else-input-from.ensures)

pub put_planned-requires : goal.put_planned-requires
put_planned-requires c = plan_fits _ _ _ _ c.plan.ensures

pub returns-then-input-from-clause-put : goal.returns-then-input-from-clause-put
returns-then-input-from-clause-put c =
    let s = c.args.input.now in
    let rows : take (length s - 3) (drop 3 s) ≡ drop 3 s = take_all (length s - 3) (drop 3 s) (omega (arith, length-drop 3 s)) in
    let z : c.plan.result ≡ plan_of c.from-n.result (take (length s - 3) (drop 3 s)) c.from-depth.result = c.plan.ensures in
    let e = plan-text _ _ _ _ (z ∙ (λ i. plan_of (c.from-n.ensures i) (rows i) (c.from-depth.ensures i))) in
    put_as (e ∙ is_planned s c.from.result c.from.ensures c.if-input-lt3.false c.if-input-from.true) c.put_planned.ensures.put

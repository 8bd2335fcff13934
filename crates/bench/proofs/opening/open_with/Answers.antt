-- `open_with`: what was accepted is placed, and a refusal leaves the bench. Assumes nothing.
use mathlib.Core.Path.{◌∙◌, sym, ap, subst}
use Prim.Native.Nat.{◌≤◌}
use lib.ListN.{length}
use Rattle.circuit.specs.declared.Circuit.{Circuit}
use Rattle.circuit.specs.Sizes.{most_inputs, most_outputs, most_gates, most_values}
use Rattle.targets.specs.Target.{brought}
use Rattle.bench.specs.State.{limits}
use Rattle.bench.specs.Parts.{placed_of}
use Rattle.bench.proofs.OpenLaws.{accepted_no, accepted_yes, open_shaped, open_short, open_refused, open_done, open_placed}
use Rattle.bench.proofs.opening.open_with.Goals as goal

pub placed-next-requires : goal.placed-next-requires
placed-next-requires c = let a = c.args in
    let t = brought a.only a.target.now in
    let y = accepted_yes a.bytes.now t _ (sym c.in-Ok.is ∙ c.accepted.ensures) in
    let o = open_shaped a.bytes.now t y.0 in
    subst (λ (z : Circuit). (z.n ≤ most_inputs) × (z.m ≤ most_outputs) × (z.g ≤ most_gates) × (length a.target.now ≤ most_values)) (sym y.1)
    (o.n_most, o.m_most, o.g_most, open_short a.bytes.now t y.0)

pub returns-in-Err : goal.returns-in-Err
returns-in-Err c = let a = c.args in
    let t = brought a.only a.target.now in
    open_refused a.bench a.bytes.now t (limits a.most.gates a.most.depth a.most.ands) _ (accepted_no a.bytes.now t _ (sym c.in-Err.is ∙ c.accepted.ensures))

pub returns-in-Ok : goal.returns-in-Ok
returns-in-Ok c = let a = c.args in
    let t = brought a.only a.target.now in
    let l = limits a.most.gates a.most.depth a.most.ands in
    let y = accepted_yes a.bytes.now t _ (sym c.in-Ok.is ∙ c.accepted.ensures) in
    open_done a.bench a.bytes.now t l _ y.0
    (c.placed-next.ensures ∙ ap (λ (z : Circuit). placed_of z a.only a.target.now l) y.1 ∙ open_placed a.bytes.now t y.0 l)

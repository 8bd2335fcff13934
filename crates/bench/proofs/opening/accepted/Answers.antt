-- `accepted`: the reader's refusal, then the target's, and else the circuit. Assumes nothing.
use borrow.Author.Rules.{rules}
use mathlib.Core.Path.{◌≡◌, ◌∙◌, sym}
use mathlib.Core.Bool.{true, false}
use Rattle.std.specs.Prelude.{Err}
use Rattle.targets.specs.Target.{brought}
use Rattle.bench.proofs.OpenLaws.{accepted_unread, accepted_read}
use Rattle.bench.proofs.opening.accepted.Goals as goal

pub returns-in_err-c : goal.returns-in_err-c
returns-in_err-c c = let a = c.args in
    let w = c.in_err-c.field-0.0 in
    let e : c.from_residual.result ≡ Err w = search rules in
    e ∙ accepted_unread a.bytes.now (brought a.only a.target.now) w (sym c.in_err-c.was ∙ c.read.ensures)

pub returns-then-not-target_fits : goal.returns-then-not-target_fits
returns-then-not-target_fits c = let a = c.args in
    accepted_read a.bytes.now (brought a.only a.target.now) _ (sym c.in_ok-c.was ∙ c.read.ensures) false (sym c.target_fits.ensures ∙ c.if-not-target_fits.true)

pub returns : goal.returns
returns c = let a = c.args in
    accepted_read a.bytes.now (brought a.only a.target.now) _ (sym c.in_ok-c.was ∙ c.read.ensures) true (sym c.target_fits.ensures ∙ c.if-not-target_fits.false)

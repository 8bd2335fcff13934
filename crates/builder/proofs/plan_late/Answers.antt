-- `plan_late` meets its contract: a refusal is what the look found, and nothing after it refuses.
use Rattle.std.specs.Prelude.{Ok, Err}
use mathlib.Core.Path.{◌≡◌, refl, sym, ap, ◌∙◌}
use borrow.Author.Rules.{rules}
use Rattle.builder.specs.Late.{late_plan_of}
use Rattle.builder.proofs.plan_late.Goals as goal

pub program-requires : goal.program-requires
program-requires c = record { accepted = sym c.look.ensures ∙ c.in_ok-look.was }

pub returns-in_err-look : goal.returns-in_err-look
unfolding late_plan_of
returns-in_err-look c = let f : c.from_residual.result ≡ Err c.in_err-look.field-0.0 = search rules in
    f ∙ rw (sym c.look.ensures ∙ c.in_err-look.was) refl

pub returns : goal.returns
unfolding late_plan_of
returns c = rw (sym c.look.ensures ∙ c.in_ok-look.was) (ap Ok c.program.ensures)

-- `build` meets its contract: a refusal is given back, and what was planned is written.
use Rattle.std.specs.Prelude.{Err}
use mathlib.Core.Path.{◌≡◌, sym, ◌∙◌}
use borrow.Author.Rules.{rules}
use Rattle.builder.proofs.Written.{builds, builds_none}
use Rattle.builder.proofs.build.Goals as goal

pub returns-in_err-c : goal.returns-in_err-c
returns-in_err-c c = let a = c.args in
    let f : c.from_residual.result ≡ Err c.in_err-c.field-0.0 = search rules in
    rw f (builds_none a.n a.rows.now a.d a.room.now _ (sym c.in_err-c.was ∙ c.plan.ensures))

pub returns : goal.returns
returns c = let a = c.args in
    builds a.n a.rows.now a.d a.room.now _ _ _ (search rules) c.write.ensures

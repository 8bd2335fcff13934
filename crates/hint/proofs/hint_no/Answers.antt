-- `hint::hint_no` meets its contract: the numbers of what `hint` answers. Assumes nothing.
use mathlib.Core.Path.{◌≡◌, ap, ◌∙◌, sym}
use Prim.Native.Nat.{ℕ, ◌+◌}
use Rattle.std.specs.Prelude.{Some, None, Ok}
use Rattle.distance.specs.Query.{bare_code}
use Rattle.hint.specs.Hint.{hint_numbers}
use Rattle.hint.proofs.hint_no.Goals as goal

pub returns-in-Ok-Some : goal.returns-in-Ok-Some
returns-in-Ok-Some c =
    let is : c.hint.result ≡ Ok (Some c.in-Ok-Some.found) = rw c.in-Ok-Some.field-0-is at c.in-Ok-Some.is in
    λ p k. (λ i. record { code = c.from.ensures i; count = c.in-Ok-Some.found.count; lines = c.in-Ok-Some.found.lines })
    ∙ ap hint_numbers (sym is ∙ c.hint.ensures p k)

pub returns-in-Ok-None : goal.returns-in-Ok-None
returns-in-Ok-None c =
    let is : c.hint.result ≡ Ok None = rw c.in-Ok-None.field-0-is at c.in-Ok-None.is in
    λ p k. c.bare_number.ensures ∙ ap hint_numbers (sym is ∙ c.hint.ensures p k)

pub returns-in-Err : goal.returns-in-Err
returns-in-Err c =
    λ p k. c.bare_number-in-Err.ensures ∙ ap (λ (x : ℕ). bare_code (100 + x)) c.refusal_no.ensures.0 ∙ ap hint_numbers (sym c.in-Err.is ∙ c.hint.ensures p k)

-- `talk::lines::say_found` meets its contract. Assumes nothing.
use mathlib.Core.Path.{ap, ◌∙◌}
use mathlib.Core.List.{◌++◌}
use Prim.Native.Nat.{ℕ}
use Rattle.text.specs.Numbers.{labelled}
use Rattle.listing.specs.Printed.{new_line, refused_name}
use Rattle.talk.proofs.Spoken.{said_as}
use Rattle.talk.proofs.lines.say_found.Goals as goal

pub returns-in-Err : goal.returns-in-Err
returns-in-Err c = rw c.in-Err.is
    (said_as (ap (λ (x : ℕ). labelled refused_name x ++ new_line) (c.from.ensures ∙ c.refusal_no.ensures)) c.say_number.ensures)

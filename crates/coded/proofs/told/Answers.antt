-- `coded::told` meets its contract. Assumes nothing.
use mathlib.Core.Path.{◌≡◌, refl, ◌∙◌}
use Rattle.std.specs.Prelude.{Ok, Err}
use Rattle.std.specs.Result.{result_unwrap_or}
use Rattle.bench.specs.declared.Reworked.{Reworked}
use Rattle.bench.specs.Calls.{Edit, no_lines, listed_in}
use Rattle.coded.proofs.told.Goals as goal

-- the lines that are told are the ones that are listed
listed : (e : Edit) → result_unwrap_or e no_lines ≡ listed_in e
listed (Ok r) = refl
listed (Err w) = refl

pub returns : goal.returns
returns c = let e = c.args.edit in
    let n = c.answer_no-refusal.ensures in
    let r : c.unwrap_or-told.result ≡ listed_in e = c.unwrap_or-told.ensures ∙ listed e in
    λ i. record { refusal = n i; count = (r i).count; lines = (r i).lines }

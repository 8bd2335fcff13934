-- `targets::rules::rows_fit` meets its contract. Assumes nothing.
use Rattle.std.proofs.Common.{rules}
use borrow.Author.Tests.{tests}
use native.Mathlib.Omega.{arith}
use mathlib.Core.Path.{◌∙◌, refl}
use Prim.Native.Nat.{◌+◌}
use lib.ListN.{get_or}
use Rattle.circuit.specs.Rows.{row}
use Rattle.std.proofs.lemmas.Iterator.{YieldsList-from_range}
use Rattle.std.proofs.lemmas.Iterator.Search.{all_from_yields_List}
use Rattle.targets.specs.Target.{row_is_sound}
use Rattle.targets.proofs.Fitting.{rows_as}
use Rattle.targets.proofs.rules.rows_fit.Goals as goal

pub returns : goal.returns
returns c = let a = c.args in
    all_from_yields_List (λ j. row_is_sound a.n (row (get_or a.bytes.now j 0) (get_or a.bytes.now (a.m + j) 0))) _ _ c.all.result c.all.ensures.ran (YieldsList-from_range 0 a.m a.m refl (omega arith)) (λ x b q k. search (rules, tests))
    ∙ rows_as a.n a.m a.bytes.now

-- `targets::rules::entries_fit` meets its contract. Assumes nothing.
use Rattle.std.proofs.Common.{rules}
use borrow.Author.Tests.{tests}
use mathlib.Core.Path.{◌∙◌}
use Rattle.std.proofs.lemmas.Iterator.{YieldsList-from_slice}
use Rattle.std.proofs.lemmas.Iterator.Search.{all_from_yields_List}
use Rattle.targets.specs.Target.{entry_fits}
use Rattle.targets.proofs.Fitting.{all_as}
use Rattle.targets.proofs.rules.entries_fit.Goals as goal

pub returns : goal.returns
unfolding entry_fits
returns c = all_from_yields_List (entry_fits c.args.m) _ _ c.all.result c.all.ensures.ran (YieldsList-from_slice c.args.bytes.now cc) (λ x b q k. search (rules, tests))
    ∙ all_as (entry_fits c.args.m) c.args.bytes.now

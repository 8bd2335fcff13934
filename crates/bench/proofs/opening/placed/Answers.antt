-- `bench::opening::placed` meets its contract. Assumes nothing.
use mathlib.Core.Path.{◌∙◌}
use Rattle.bench.specs.State.{limits}
use Rattle.bench.specs.Parts.{placed_of}
use Rattle.bench.proofs.OpenLaws.{placed_by}
use Rattle.bench.proofs.opening.placed.Goals as goal

pub returns : goal.returns
returns c = let a = c.args in
    c.examine.ensures
    ∙ placed_by a.c a.only a.bytes.now c.target_bytes-target.result c.wanted_words-wanted.result (limits c.from.result c.from-2.result c.from-3.result)
    c.target_bytes-target.ensures c.wanted_words-wanted.ensures
    ∙ (λ i. placed_of a.c a.only a.bytes.now (limits (c.from.ensures i) (c.from-2.ensures i) (c.from-3.ensures i)))

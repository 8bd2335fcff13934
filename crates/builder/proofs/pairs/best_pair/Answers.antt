-- `best_pair` meets its contract: the goals choose the pair that the rows choose.
use mathlib.Core.Path.{sym}
use Prim.Native.Nat.{◌≤◌}
use Rattle.circuit.specs.Sizes.{most_outputs}
use Rattle.builder.proofs.Fields.{places_taken, rooms_taken, lows_taken}
use Rattle.builder.proofs.Weighed.{gaps_length, gap_small, few_goals, weighing_taken, best-taken}
use Rattle.builder.proofs.pairs.best_pair.Goals as goal
use Rattle.builder.proofs.pairs.best_pair.Goals.{After-aim-aims}

pub aim-aims-requires-clause-paired : goal.aim-aims-requires-clause-paired
aim-aims-requires-clause-paired c = gaps_length _ _ _ _ _ _ c.requires

pub aim-aims-requires-clause-near : goal.aim-aims-requires-clause-near
aim-aims-requires-clause-near c = gap_small _ _ _ _ _ _ c.requires

-- the count is within the array
few : (c : After-aim-aims) → c.aim-aims.result.count ≤ most_outputs
few c = few_goals _ _ _ _ _ _ c.requires _ _ _ _ _ c.aim-aims.ensures

pub weigh-requires : goal.weigh-requires
weigh-requires c = let g = c.aim-aims.result in
    rw (sym (places_taken g.count g.goals), sym (rooms_taken g.count g.goals), sym (lows_taken g.count g.goals))
    (weighing_taken _ _ _ _ _ _ c.requires _ _ _ _ _ c.aim-aims.ensures c.greatest_of-top.result c.greatest_of-top.ensures)

pub returns : goal.returns
returns c = let g = c.aim-aims.result in
    let p = c.weigh.result in
    best-taken _ _ _ _ _ _ c.requires _ _ _ _ _ c.aim-aims.ensures c.greatest_of-top.result p.total p.square p.pair.a p.pair.b c.greatest_of-top.ensures
    (rw (places_taken g.count g.goals, rooms_taken g.count g.goals, lows_taken g.count g.goals) c.weigh.ensures)

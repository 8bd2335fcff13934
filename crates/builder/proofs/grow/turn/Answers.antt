-- `turn` meets its contract: the parts of the arrays that are lent hold the base and the distances.
use Rattle.builder.specs.Kept.{base}
use Rattle.builder.proofs.Steps.{choosing}
use Rattle.builder.proofs.grow.turn.Goals as goal

pub next_gate-requires : goal.next_gate-requires
next_gate-requires c = choosing _ _ _ c.requires.poised _ c.requires.tabled

pub returns : goal.returns
unfolding base
returns c = c.next_gate.ensures

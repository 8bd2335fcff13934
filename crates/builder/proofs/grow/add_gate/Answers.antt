-- `add_gate` meets its contract: the next gate reads two lines and is not too deep, so the state steps.
use Prim.Native.Nat.{◌<◌}
use native.Mathlib.Omega.{arith}
use Rattle.circuit.specs.Sizes.{most_lines}
use Rattle.builder.proofs.Steps.{first_in, second_in, lowering, stepped}
use Rattle.builder.proofs.grow.add_gate.Goals as goal
use Rattle.builder.proofs.grow.add_gate.Goals.{Start}

-- the operands are lines
one : (c : Start) → c.args.pair.a < most_lines
one c = omega (arith, first_in _ _ _ c.requires.poised _ c.requires.tabled _ _ c.requires.next, c.requires.poised.within)

two : (c : Start) → c.args.pair.b < most_lines
two c = omega (arith, second_in _ _ _ c.requires.poised _ c.requires.tabled _ _ c.requires.next, c.requires.poised.within)

pub offset_bounds-s-pair : goal.offset_bounds-s-pair
offset_bounds-s-pair c = omega (arith, one (goal.at.offset_bounds-s-pair c).Start)

pub bounds-s-pair : goal.bounds-s-pair
bounds-s-pair c = one (goal.at.bounds-s-pair c).Start

pub offset_bounds-s-pair-2 : goal.offset_bounds-s-pair-2
offset_bounds-s-pair-2 c = omega (arith, two (goal.at.offset_bounds-s-pair-2 c).Start)

pub bounds-s-pair-2 : goal.bounds-s-pair-2
bounds-s-pair-2 c = two (goal.at.bounds-s-pair-2 c).Start

pub bounds-s-pair-3 : goal.bounds-s-pair-3
bounds-s-pair-3 c = one (goal.at.bounds-s-pair-3 c).Start

pub bounds-s-pair-4 : goal.bounds-s-pair-4
bounds-s-pair-4 c = two (goal.at.bounds-s-pair-4 c).Start

pub invariant_of-line : goal.invariant_of-line
invariant_of-line c = let l = lowering _ _ _ c.requires.poised _ c.requires.tabled _ _ c.requires.next _ _ c.deeper-depth.ensures c.cost.ensures in record { byte = l.byte; cheap = l.cheap }

pub lowered-gaps-requires : goal.lowered-gaps-requires
lowered-gaps-requires c = lowering _ _ _ c.requires.poised _ c.requires.tabled _ _ c.requires.next _ _ c.deeper-depth.ensures c.cost.ensures

pub overflow_cast-s : goal.overflow_cast-s
overflow_cast-s c = omega (arith, one (goal.at.overflow_cast-s c).Start)

pub overflow_cast-s-2 : goal.overflow_cast-s-2
overflow_cast-s-2 c = omega (arith, two (goal.at.overflow_cast-s-2 c).Start)

pub returns : goal.returns
returns c = stepped _ _ _ c.requires.poised _ c.requires.tabled _ _ c.requires.next _ _ c.deeper-depth.ensures c.cost.ensures _ c.lowered-gaps.ensures _ c.greatest_of-top.ensures _ (rw c.from.ensures at c.take_in.ensures)

-- A small circuit, swept: a gate that feeds nothing, one with its operands the other way round, one that is the same once
-- its operands are merged, and two NOT gates. Assumes nothing.
use mathlib.Core.Path.{◌≡◌, refl}
use mathlib.Core.List.{[], ◌∷◌}
use Rattle.circuit.specs.Lines.{Listing, gate, listing, reads, upto}
use Rattle.sweep.specs.Sweep.{has, back, other_way, are_same_lines, same_gate, place, joined, renamed, turned, sweep_to, swept}

abbrev pub before : Listing
before =
    listing 2 (gate 0 0 1 ∷ gate 2 0 1 ∷ gate 0 1 0 ∷ gate 2 2 4 ∷ gate 6 4 0 ∷ gate 6 2 0 ∷ gate 0 5 6 ∷ gate 0 7 5 ∷ []) (8 ∷ 9 ∷ 1 ∷ [])

abbrev pub after : Listing
after = listing 2 (gate 0 0 1 ∷ gate 2 2 2 ∷ gate 6 2 0 ∷ gate 0 3 4 ∷ []) (5 ∷ 5 ∷ 1 ∷ [])

pub swept_example : swept before ≡ after
unfolding has back other_way are_same_lines same_gate place joined renamed turned sweep_to swept reads upto
swept_example = refl

pub swept_again_example : swept after ≡ after
unfolding has back other_way are_same_lines same_gate place joined renamed turned sweep_to swept reads upto
swept_again_example = refl

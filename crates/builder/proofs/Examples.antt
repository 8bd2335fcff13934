-- K1 to K5, and the edge of row 255 at D = 2, computed from the definitions.
use Rattle.std.specs.Prelude.{Err}
use Rattle.circuit.specs.Rules.{done}
use mathlib.Core.List.{[], ◌∷◌}
use mathlib.Core.Path.{◌≡◌, refl}
use Rattle.circuit.specs.declared.Refusal.TheVariants.{TooShallow}
use Rattle.circuit.specs.Rules.{shaped}
use Rattle.circuit.specs.Lines.{listing}
use Rattle.stored.specs.Stored.{stored, gate_bytes, out_bytes}
use Rattle.distance.specs.Base.{xor}
use Rattle.builder.specs.Rule.{reach, taken, xor_gate, greedy_circuit}
use Rattle.builder.specs.Call.{built, refusal}
use Rattle.builder.specs.Late.{late_built, late_refusal}

pub k1 : stored (built 3 (3 ∷ 7 ∷ 6 ∷ []) 2)
    ≡ 0x53 ∷ 0x48 ∷ 3 ∷ 3 ∷ 3 ∷ 0x47 ∷ 0x54 ∷ 0 ∷ 0 ∷ 1 ∷ 0x47 ∷ 0x54 ∷ 0 ∷ 2 ∷ 3 ∷ 0x47 ∷ 0x54 ∷ 0 ∷ 1 ∷ 2 ∷ 0x4F ∷ 0x50 ∷ 3 ∷ 0x4F ∷ 0x50 ∷ 4 ∷ 0x4F ∷ 0x50 ∷ 5 ∷ []
unfolding reach taken greedy_circuit built gate_bytes out_bytes
k1 = refl

pub k2 : built 3 (3 ∷ 7 ∷ 6 ∷ []) 3 ≡ listing 3 (xor_gate (xor 0 1) ∷ xor_gate (xor 2 3) ∷ xor_gate (xor 0 4) ∷ []) (3 ∷ 4 ∷ 5 ∷ [])
unfolding reach taken greedy_circuit built
k2 = refl

pub k3 : refusal 3 (3 ∷ 7 ∷ 6 ∷ []) 1 ≡ Err TooShallow
unfolding refusal shaped
k3 = refl

pub k4 : built 4 (7 ∷ 11 ∷ []) 2 ≡ listing 4 (xor_gate (xor 0 1) ∷ xor_gate (xor 2 4) ∷ xor_gate (xor 3 4) ∷ []) (5 ∷ 6 ∷ [])
unfolding reach taken greedy_circuit built
k4 = refl

pub k5 : stored (built 1 (1 ∷ []) 0) ≡ 0x53 ∷ 0x48 ∷ 1 ∷ 1 ∷ 0 ∷ 0x4F ∷ 0x50 ∷ 0 ∷ []
unfolding reach taken greedy_circuit built gate_bytes out_bytes
k5 = refl

-- none of these is refused
pub sound : (refusal 3 (3 ∷ 7 ∷ 6 ∷ []) 2 ≡ done) × (refusal 3 (3 ∷ 7 ∷ 6 ∷ []) 3 ≡ done) × (refusal 4 (7 ∷ 11 ∷ []) 2 ≡ done) × (refusal 1 (1 ∷ []) 0 ≡ done)
unfolding refusal shaped
sound = (refl, refl, refl, refl)

-- row 255 at n = 8 is refused 10 at D = 2, and not at D = 3
pub edge : (refusal 8 (255 ∷ []) 2 ≡ Err TooShallow) × (refusal 8 (255 ∷ []) 3 ≡ done)
unfolding refusal shaped
edge = (refl, refl)

-- ---- late signals: K2 with x0 at depth 2. Row 7 can no longer add x2 to x0 + x1, which is there at depth 3; x0 is added to x1 + x2
pub late : late_built 3 (2 ∷ 0 ∷ 0 ∷ []) (3 ∷ 7 ∷ 6 ∷ []) (3 ∷ 3 ∷ 3 ∷ []) ≡ listing 3 (xor_gate (xor 0 1) ∷ xor_gate (xor 1 2) ∷ xor_gate (xor 0 4) ∷ []) (3 ∷ 5 ∷ 4 ∷ [])
unfolding reach taken greedy_circuit late_built
late = refl

-- it is not refused; with limit 2 for row 7, whose inputs come to 4 + 1 + 1, it is refused 10
pub late_edge : (late_refusal 3 (2 ∷ 0 ∷ 0 ∷ []) (3 ∷ 7 ∷ 6 ∷ []) (3 ∷ 3 ∷ 3 ∷ []) ≡ done) × (late_refusal 3 (2 ∷ 0 ∷ 0 ∷ []) (3 ∷ 7 ∷ 6 ∷ []) (3 ∷ 2 ∷ 3 ∷ []) ≡ Err TooShallow)
unfolding late_refusal shaped
late_edge = (refl, refl)

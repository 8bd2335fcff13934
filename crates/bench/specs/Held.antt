-- What a bench holds: the one bench that stands for a state, all that it holds as a first-time examination gives it.
use Rattle.std.specs.Prelude.{◌≡◌, Bool, true, false, List, ℕ, length, replicate}
use Rattle.circuit.specs.declared.Circuit.{Circuit}
use Rattle.circuit.specs.declared.Words.{Words}
use Rattle.circuit.specs.Gate.{no_words}
use Rattle.circuit.specs.Lines.{gate_at, padded, depths, and_depths, words}
use Rattle.circuit.specs.Structs.{held, no_circuit}
use Rattle.circuit.specs.Sizes.{most_outputs, most_lines, most_values}
use Rattle.targets.specs.Target.{is_matrix, target_bytes}
use Rattle.targets.specs.Wanted.{wanted_of}
use Rattle.bench.specs.declared.Bench.{Bench}
use Rattle.bench.specs.State.{Limits, limits, State, Present, nothing, present, SoundPresent}

-- the bench with these parts: whether anything is open, the circuit, the target by its kind, its bytes and what it wants, the
-- limits, and what is held for each line: depth, AND depth and values. Benches are made by it, and written out nowhere else.
abbrev pub bench_with : Bool → Circuit → Bool → List ℕ → List Words → Limits → List ℕ → List ℕ → List Words → Bench
bench_with opened c only target wanted l ds ads ws =
    record {
      is_open = opened;
      is_matrix = only;
      n = c.n;
      m = c.m;
      g = c.g;
      max_gates = l.gates;
      max_depth = l.depth;
      max_and_depth = l.and_depth;
      kinds = c.kinds;
      left = c.left;
      right = c.right;
      outputs = c.outputs;
      target = target;
      wanted = wanted;
      depths = ds;
      and_depths = ads;
      values = ws;
    }

-- the circuit of a bench
abbrev pub circuit_of : Bench → Circuit
circuit_of b = record { n = b.n; m = b.m; g = b.g; kinds = b.kinds; left = b.left; right = b.right; outputs = b.outputs }

-- the limits of a bench
abbrev pub limits_of : Bench → Limits
limits_of b = limits b.max_gates b.max_depth b.max_and_depth

-- the bench with another circuit,
abbrev pub recircuited : Bench → Circuit → Bench
recircuited b c = bench_with b.is_open c b.is_matrix b.target b.wanted (limits_of b) b.depths b.and_depths b.values

-- with another target of its kind, and what that wants,
abbrev pub retargeted : Bench → List ℕ → List Words → Bench
retargeted b target wanted = bench_with b.is_open (circuit_of b) b.is_matrix target wanted (limits_of b) b.depths b.and_depths b.values

-- with other limits,
abbrev pub limited : Bench → Limits → Bench
limited b l = bench_with b.is_open (circuit_of b) b.is_matrix b.target b.wanted l b.depths b.and_depths b.values

-- and with other things held for its lines
abbrev pub holding : Bench → List ℕ → List ℕ → List Words → Bench
holding b ds ads ws = bench_with b.is_open (circuit_of b) b.is_matrix b.target b.wanted (limits_of b) ds ads ws

-- a bench on which no line is examined: this circuit, target and limits
abbrev pub unexamined : Bool → Circuit → Bool → List ℕ → List Words → Limits → Bench
unexamined opened c only target wanted l = bench_with opened c only target wanted l (replicate most_lines 0) (replicate most_lines 0) (replicate most_lines no_words)

-- the bench with nothing open: zeros
unfoldable pub empty_bench : Bench
empty_bench = unexamined false no_circuit false (replicate most_values 0) (replicate most_outputs no_words) (limits 0 0 0)

-- the bench that stands for a state
unfoldable pub full_bench : State → Bench
full_bench s =
    let c = s.circuit in
    let g = length c.gates in
    bench_with true (held c) (is_matrix s.target) (padded most_values 0 (target_bytes s.target)) (wanted_of s.target (length c.outs)) s.limits
    (padded most_lines 0 (depths c.inputs (gate_at c) g)) (padded most_lines 0 (and_depths c.inputs (gate_at c) g)) (padded most_lines no_words (words c.inputs (gate_at c) g))

-- the one bench of what is present
abbrev pub bench_of : Present → Bench
bench_of nothing = empty_bench
bench_of (present s) = full_bench s

-- a right bench: it stands for what is present, which keeps every rule, and holds exactly what a first-time examination gives
pub record Stands (b : Bench) (p : Present) : Type 0 where
  pub sound : SoundPresent p
  pub is : b ≡ bench_of p

-- What a sound state shows, and what a bench that stands for it has. Assumes nothing.
use mathlib.Core.Path.{◌≡◌, ap, ◌∙◌, sym}
use mathlib.Core.Bool.{Bool, true}
use mathlib.Core.List.{List, ◌++◌}
use Prim.Native.Nat.{ℕ, ◌≤◌, ◌<◌, ◌-◌, ◌+◌}
use native.Mathlib.Omega.{arith}
use lib.ListN.{length, take, replicate, length-replicate, length-take}
use Rattle.circuit.specs.Gate.{no_words}
use Rattle.circuit.specs.Lines.{Gate, Listing, gate_at, lines, depth_step, and_depth_step, words_step, input_words, padded, gate}
use Rattle.circuit.specs.Sizes.{most_inputs, most_lines}
use Rattle.circuit.proofs.RuleLaws.{gate_fits, CircuitFits, circuit_fits}
use Rattle.circuit.proofs.LineLaws.{lines_length, lines_agree}
use Rattle.circuit.proofs.Listed.{gate-held}
use Rattle.targets.specs.Target.{is_matrix}
use Rattle.bench.specs.declared.Bench.{Bench}
use Rattle.bench.specs.State.{State, Sound}
use Rattle.bench.specs.Held.{full_bench, holding}
use Rattle.bench.specs.Parts.{gate_on, entries, examined_as, examined, AllBelow, standing}

-- ---- a circuit that is accepted

-- each gate of it reads lines below its own
pub all_below : (only : Bool) (c : Listing) → CircuitFits only c → AllBelow c.inputs (length c.gates) (gate_at c)
all_below only c f j h = let q = gate_fits only (c.inputs + j) (gate_at c j) (f.gates j h) in (q.first, q.second)

-- ---- the bench of a state

-- gate k of the bench of a state is gate k of its circuit
pub gate-of : (s : State) → CircuitFits (is_matrix s.target) s.circuit → (k : ℕ) → gate_on (full_bench s) k ≡ gate_at s.circuit k
unfolding full_bench
gate-of s f k = gate-held (is_matrix s.target) s.circuit f k

-- padding lines is what the examination leaves past the last
pub entries-padded : {A : Type 0} (step : ℕ → Gate → List A → A) (d : A) (ins : List A) (gate : ℕ → Gate) (n g : ℕ) → length ins ≡ n
    → entries step d ins gate n g ≡ padded most_lines d (lines step d ins gate g)
entries-padded {A} step d ins gate n g h =
    let e : n + g ≡ length (lines step d ins gate g) = omega (arith, lines_length step d ins gate g, h) in
    ap (λ (k : ℕ). lines step d ins gate g ++ replicate (most_lines - k) d) e

-- the bench of a sound state holds what examining its gates gives
pub full_examined : (s : State) → s.circuit.inputs ≤ most_inputs → full_bench s ≡ examined_as (full_bench s) (gate_at s.circuit)
unfolding full_bench examined_as
full_examined s h =
    let c = s.circuit in
    let n = c.inputs in
    let g = length c.gates in
    let a = entries-padded depth_step 0 (replicate n 0) (gate_at c) n g (length-replicate n 0) in
    let b = entries-padded and_depth_step 0 (replicate n 0) (gate_at c) n g (length-replicate n 0) in
    let w = entries-padded words_step no_words (take n input_words) (gate_at c) n g (omega (arith, length-take n input_words)) in
    λ i. holding (full_bench s) (sym a i) (sym b i) (sym w i)

-- examining depends on the gates one by one
pub examined_same : (b : Bench) (old new : ℕ → Gate) → ((i : ℕ) → i < b.g → new i ≡ old i) → examined_as b new ≡ examined_as b old
unfolding examined_as
examined_same b old new h =
    let a = lines_agree depth_step 0 (replicate b.n 0) old new b.g h in
    let c = lines_agree and_depth_step 0 (replicate b.n 0) old new b.g h in
    let w = lines_agree words_step no_words (take b.n input_words) old new b.g h in
    λ i. holding b (a i ++ replicate (most_lines - (b.n + b.g)) 0) (c i ++ replicate (most_lines - (b.n + b.g)) 0) (w i ++ replicate (most_lines - (b.n + b.g)) no_words)

-- so the bench of a state whose circuit is accepted, examined afresh, is itself
pub examined_full : (s : State) → CircuitFits (is_matrix s.target) s.circuit → examined (full_bench s) ≡ full_bench s
examined_full s f = examined_same (full_bench s) (gate_at s.circuit) (gate_on (full_bench s)) (λ i h. gate-of s f i) ∙ sym (full_examined s f.shape.n_most)

-- something is open on it
pub full_standing : (s : State) → Sound s → standing true s.circuit.inputs (length s.circuit.outs) (length s.circuit.gates) ≡ true
full_standing s ok = (circuit_fits (is_matrix s.target) s.circuit ok.circuit).shaped-true

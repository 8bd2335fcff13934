-- The bench after a sweep is the one that stands for the swept state, and its answer lists the lines of the gates that are kept. Assumes nothing.
use Rattle.std.specs.Prelude.{Ok, Err}
use Rattle.circuit.specs.Rules.{done}
use mathlib.Core.Path.{◌≡◌, refl, ap, ◌∙◌, sym, subst}
use mathlib.Core.Bool.{Bool, true, false, cond}
use mathlib.Core.List.{List, [], ◌∷◌, ◌++◌, append-nil, append_assoc}
use Prim.Native.Nat.{ℕ, ◌+◌, ◌≤◌, ◌<◌}
use native.Mathlib.Omega.{arith}
use lib.ListN.{length, set, replicate, length-append, length-replicate, length-map, replicate-append-replicate}
use Rattle.circuit.specs.declared.Circuit.{Circuit}
use Rattle.circuit.specs.declared.Refusal.TheVariants.{NothingOpen}
use Rattle.circuit.specs.Lines.{Listing, gate_at}
use Rattle.circuit.specs.Rules.{shaped, listing_answer}
use Rattle.circuit.specs.Sizes.{most_inputs, most_gates, most_lines}
use Rattle.circuit.specs.Structs.{held, listed, gate_of}
use Rattle.circuit.proofs.Listed.{listed-held}
use Rattle.circuit.proofs.RuleLaws.{CircuitFits, circuit_fits}
use Rattle.circuit.proofs.Shapes.{both}
use Rattle.circuit.proofs.Upto.{upto-length}
use Rattle.sweep.specs.Sweep.{used, to, sweep_of, swept, swept_in}
use Rattle.sweep.proofs.FoldLaws.{kept_few}
use Rattle.sweep.proofs.Theorems.{swept_accepted}
use Rattle.targets.specs.Target.{is_matrix, target_fits}
use Rattle.targets.specs.Wanted.{wanted_of}
use Rattle.bench.specs.declared.Bench.{Bench}
use Rattle.bench.specs.State.{State, with_circuit, Sound}
use Rattle.bench.specs.Held.{full_bench, circuit_of, recircuited, retargeted}
use Rattle.bench.specs.Calls.{Edit, reworking, SweepPromise}
use Rattle.bench.specs.Parts.{open_on, examined_as, examined}
use Rattle.bench.proofs.Places.{Tells, tells_none, tells_hit}
use Rattle.bench.proofs.Standing.{examined_full}
use Rattle.bench.proofs.StoreLaws.{circuit_of_full}
use Rattle.bench.proofs.Stood.{standing-shaped, when-open, when_shut}

-- ---- the swept state

pub outs_length : (c : Listing) → length (swept c).outs ≡ length c.outs
unfolding swept
outs_length c = length-map c.outs (to (sweep_of c))

-- it keeps every rule
pub sound_sweep : (s : State) → Sound s → Sound (with_circuit s (swept s.circuit))
unfolding swept
sound_sweep s ok =
    record {
      circuit = swept_accepted (is_matrix s.target) s.circuit ok.circuit;
      target = subst (λ (m : ℕ). target_fits s.circuit.inputs m s.target ≡ true) (sym (outs_length s.circuit)) ok.target;
      limits = ok.limits;
    }

-- ---- what the code makes of a struct

-- one in range stays in range, sound or not
pub swept_range : (c : Circuit) → shaped c.n c.m c.g ≡ true → ((swept_in c).n ≡ c.n) × ((swept_in c).g ≤ c.g)
unfolding swept_in swept
swept_range c h =
    let few : length (sweep_of (listed c)).kept ≤ c.g =
    omega (arith, kept_few c.n (used (listed c)) (gate_at (listed c)) (length (listed c).gates), upto-length (gate_of c) c.g) in
    (ap (λ (t : Bool). (cond t (held (swept (listed c))) c).n) h, subst (λ (t : Bool). (cond t (held (swept (listed c))) c).g ≤ c.g) (sym h) few)

-- of one that holds a circuit it makes the one that holds the swept circuit
pub swept-held : (only : Bool) (c : Listing) → listing_answer only c ≡ done → swept_in (held c) ≡ held (swept c)
unfolding swept_in
swept-held only c ok =
    ap (λ (t : Bool). cond t (held (swept (listed (held c)))) (held c)) (circuit_fits only c ok).shaped-true
    ∙ ap (λ (z : Listing). held (swept z)) (listed-held only c ok)

-- ---- the bench examined afresh

-- the bench of a state, with another circuit of as many outputs placed on it and examined, is the bench of the state with that circuit
pub anew_full : (s : State) (c : Listing) → CircuitFits (is_matrix s.target) c → length c.outs ≡ length s.circuit.outs
    → examined (recircuited (full_bench s) (held c)) ≡ full_bench (with_circuit s c)
unfolding full_bench examined_as
anew_full s c f e =
    let t = with_circuit s c in
    let m = sym e in
    (λ i. examined (retargeted (full_bench t) (full_bench t).target (wanted_of s.target (m i)))) ∙ examined_full t f

-- so a sweep leaves the bench of the swept state
pub swept_full : (s : State) → Sound s → examined (recircuited (full_bench s) (swept_in (circuit_of (full_bench s)))) ≡ full_bench (with_circuit s (swept s.circuit))
swept_full s ok =
    let only = is_matrix s.target in
    ap (λ (c : Circuit). examined (recircuited (full_bench s) c)) (ap swept_in (circuit_of_full s) ∙ swept-held only s.circuit ok.circuit)
    ∙ anew_full s (swept s.circuit) (circuit_fits only (swept s.circuit) (sound_sweep s ok).circuit) (outs_length s.circuit)

-- ---- the lines of the gates that are kept, as the list grows

-- the set of the lines of k gates past n inputs
abbrev pub lines_of : ℕ → ℕ → List Bool
lines_of n k = replicate n false ++ replicate k true

-- no gate
pub lines_none : (n : ℕ) → Tells (replicate most_lines 0) 0 (lines_of n 0)
lines_none n = subst (Tells (replicate most_lines 0) 0) (sym (append-nil (replicate n false))) (tells_none n)

-- a gate more
pub lines_next : (n k : ℕ) (lines : List ℕ) (v : ℕ) → v ≡ n + k → k < most_lines → Tells lines k (lines_of n k) → Tells (set lines k v) (k + 1) (lines_of n (k + 1))
lines_next n k lines v e h t =
    let l : v ≡ length (lines_of n k) = omega (arith, e, length-append (replicate n false) (replicate k true), length-replicate n false, length-replicate k true) in
    subst (Tells (set lines k v) (k + 1))
    (append_assoc (replicate n false) (replicate k true) (true ∷ []) ∙ ap (λ (r : List Bool). replicate n false ++ r) (replicate-append-replicate k 1 true))
    (tells_hit lines k (lines_of n k) t v l h)

-- ---- what the function has to show
module _ (b : Bench) where
  pub sweep_shut : open_on b ≡ false → SweepPromise b (Err NothingOpen) b
  sweep_shut t = when_shut _ b t (λ e. (refl, e))

  pub sweep_open : (edit : Edit) (next : Bench) → open_on b ≡ true → let c = swept_in (circuit_of b) in edit ≡ Ok (reworking (lines_of c.n c.g)) → next ≡ examined (recircuited b c)
      → SweepPromise b edit next
  unfolding swept
  sweep_open edit next t e x = when-open _ b t
      (λ s ok k.
      let c = ap (λ (z : Bench). swept_in (circuit_of z)) k ∙ ap swept_in (circuit_of_full s) ∙ swept-held (is_matrix s.target) s.circuit ok.circuit in (
        e ∙ ap (λ (z : Circuit). Ok (reworking (lines_of z.n z.g))) c,
        x ∙ ap (λ (z : Bench). examined (recircuited z (swept_in (circuit_of z)))) k ∙ swept_full s ok,
      ))

  -- on any bench whose numbers are those of a circuit, so are those of the swept circuit
  pub sweep_bounds : (c : Circuit) → open_on b ≡ true → c ≡ swept_in (circuit_of b) → (c.n ≤ most_inputs) × (c.g ≤ most_gates)
  sweep_bounds c t e =
      let s = standing-shaped b.is_open b.n b.m b.g t in
      let r = swept_range (circuit_of b) (both b.is_open t).1 in
      (omega (arith, s.n_most, r.0, ap (λ (z : Circuit). z.n) e), omega (arith, s.g_most, r.1, ap (λ (z : Circuit). z.g) e))

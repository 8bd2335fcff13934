-- Replacing a gate: what is looked at, that a sound state stays sound, which lines are reworked, and what the bench holds after it. Assumes nothing.
use Rattle.std.specs.Prelude.{Ok, Err}
use Rattle.circuit.specs.Rules.{Answer, done}
use mathlib.Core.Path.{◌≡◌, refl, ap, ap₂, ◌∙◌, sym, subst}
use mathlib.Core.Bool.{Bool, true, false, ◌||◌}
use mathlib.Core.List.{List, [], ◌∷◌, ◌++◌, map}
use Prim.Native.Nat.{ℕ, zero, suc, ◌≤◌, ◌<◌, ◌+◌, ◌%◌}
use native.Mathlib.Omega.{arith}
use borrow.Author.Tests.{ltb-true, eqb-false}
use lib.Dec.{ltb, eqb}
use lib.ListN.{length, get_or, set, take, replicate, length-set, length-map}
use lib.Seq.{get_or-set_other}
use Rattle.circuit.specs.declared.Refusal.{Refusal}
use Rattle.circuit.specs.declared.Refusal.TheVariants.{NothingOpen, NotThere}
use Rattle.circuit.specs.Gate.{no_words}
use Rattle.circuit.specs.Lines.{Gate, no_gate, gate_at, reads, lines, any_of, depth_step, and_depth_step, words_step, reach_step, input_words, reached, padded, gate, with_gate}
use Rattle.circuit.specs.Rules.{unless, shaped, gate_answer}
use Rattle.circuit.specs.Sizes.{most_inputs, most_gates, held16}
use Rattle.circuit.specs.Structs.{column}
use Rattle.circuit.proofs.Shapes.{Shaped, past}
use Rattle.circuit.proofs.Padding.{padded-set}
use Rattle.circuit.proofs.RuleLaws.{GateFits, gate_fits, GatesDone, OutsDone, circuit_fits, fits_circuit}
use Rattle.targets.specs.Target.{is_matrix}
use Rattle.bench.specs.declared.Bench.{Bench}
use Rattle.bench.specs.declared.Edited.{Edited}
use Rattle.bench.specs.State.{State, Sound, SoundPresent, Present, nothing, present}
use Rattle.bench.specs.Held.{empty_bench, full_bench, bench_of, Stands, holding}
use Rattle.bench.specs.Parts.{open_on, entries, examined_as, Agree, regated, Reexamined, gate_look, GateSet}
use Rattle.bench.specs.Calls.{Edit, gate_edit_answer, gate_edited, after, after_gate, readers_of, reworking, no_rework, gate_edit, GatePromise}
use Rattle.bench.proofs.Standing.{full_examined, full_standing}
use Rattle.bench.proofs.Setting.{map-set, set_each}
use Rattle.bench.proofs.Stood.{standing-shaped}
use Rattle.bench.proofs.Regating.{refused_given, done_given, low_gate, held_all, stale, regated_is, fresh_bench, fresh_lines}

-- ---- what is looked at

-- what an acceptance shows of the numbers
pub record LookFits (only : Bool) (n m g k kind a b : ℕ) : Type 0 where
  pub shape : Shaped n m g
  pub there : k < g
  pub gate : GateFits only (n + k) (gate kind a b)

pub look_fits : (z : Bench) (k kind a b : ℕ) (r : Answer) → r ≡ gate_look z k kind a b → r ≡ done
    → LookFits z.is_matrix z.n z.m z.g k kind a b
unfolding gate_look
look_fits z k kind a b r e h =
    let p = past (open_on z) NothingOpen (sym e ∙ h) in
    let q = past (ltb k z.g) NotThere p.1 in
    record { shape = standing-shaped z.is_open z.n z.m z.g p.0; there = ltb-true k z.g q.0; gate = gate_fits z.is_matrix (z.n + k) (gate kind a b) q.1 }

-- on a right bench it is what the edit answers
look_is : (z : Bench) (p : Present) → Stands z p → (k kind a b : ℕ)
    → gate_look z k kind a b ≡ gate_edit_answer p k kind a b
unfolding gate_look gate_edit_answer empty_bench full_bench
look_is z nothing st k kind a b =
    ap (λ (z : Bench). gate_look z k kind a b) st.is
look_is z (present s) st k kind a b =
    ap (λ (z : Bench). gate_look z k kind a b) st.is
    ∙ ap (λ (t : Bool). unless t NothingOpen (gate_edit_answer (present s) k kind a b)) (full_standing s st.sound)

-- ---- the state after it

-- what an accepted edit shows
pub record EditFits (s : State) (k kind a b : ℕ) : Type 0 where
  pub there : k < length s.circuit.gates
  pub gate : gate_answer (is_matrix s.target) (s.circuit.inputs + k) (gate kind a b) ≡ done

pub edit_fits : (s : State) (k kind a b : ℕ) → gate_edit_answer (present s) k kind a b ≡ done → EditFits s k kind a b
unfolding gate_edit_answer
edit_fits s k kind a b h =
    let p = past (ltb k (length s.circuit.gates)) NotThere h in
    record { there = ltb-true k (length s.circuit.gates) p.0; gate = p.1 }

-- the gates of a circuit with an accepted gate in the place of another are accepted
gates_kept : (only : Bool) (line : ℕ) (qs : List Gate) (k : ℕ) (q : Gate) → gate_answer only (line + k) q ≡ done
    → GatesDone only line qs → GatesDone only line (set qs k q)
gates_kept only line qs k q h all =
    set_each (λ (j : ℕ) (g : Gate). gate_answer only (line + j) g ≡ done) qs k q no_gate h all

-- an accepted edit keeps every rule
pub sound_kept : (s : State) (k kind a b : ℕ) → Sound s → gate_edit_answer (present s) k kind a b ≡ done → Sound (gate_edited s k kind a b)
sound_kept s k kind a b ok h =
    let only = is_matrix s.target in
    let c = s.circuit in
    let q = gate kind a b in
    let f = circuit_fits only c ok.circuit in
    let e = edit_fits s k kind a b h in
    let l = sym (length-set c.gates k q) in
    record {
      circuit = fits_circuit only (with_gate c k q) (record {
        shape = subst (λ (g : ℕ). Shaped c.inputs (length c.outs) g) l f.shape;
        shaped-true = subst (λ (g : ℕ). shaped c.inputs (length c.outs) g ≡ true) l f.shaped-true;
        gates = gates_kept only c.inputs c.gates k q e.gate f.gates;
        outs = subst (λ (g : ℕ). OutsDone (c.inputs + g) c.outs) l f.outs;
      });
      target = ok.target;
      limits = ok.limits;
    }

-- what is present keeps every rule, accepted or refused
pub sound_after : (p : Present) (k kind a b : ℕ) → SoundPresent p → SoundPresent (after_gate p k kind a b)
sound_after nothing k kind a b ok = ok
sound_after (present s) k kind a b ok = go (gate_edit_answer (present s) k kind a b) refl where
  go : (x : Answer) → gate_edit_answer (present s) k kind a b ≡ x → SoundPresent (after x (gate_edited s k kind a b) (present s))
  go (Ok _) e = sound_kept s k kind a b ok e
  go (Err w) e = ok

-- ---- which lines are reworked

-- the readers of a gate do not depend on that gate
pub reached_same : (k n : ℕ) (old new : ℕ → Gate) → Agree k old new → (j : ℕ) → reached k n new j ≡ reached k n old j
unfolding lines
reached_same k n old new agree zero = refl
reached_same k n old new agree (suc j) =
    ap₂ (λ (p : List Bool) (x : Bool). p ++ (x ∷ [])) (reached_same k n old new agree j) (made_same (eqb j k) refl (reached_same k n old new agree j)) where
      made_same : (t : Bool) → eqb j k ≡ t → reached k n new j ≡ reached k n old j
          → reach_step k j (new j) (map (λ (i : ℕ). get_or (reached k n new j) i false) (reads (new j)))
          ≡ reach_step k j (old j) (map (λ (i : ℕ). get_or (reached k n old j) i false) (reads (old j)))
      made_same true e r = ap (λ (t : Bool). t || any_of (map (λ (i : ℕ). get_or (reached k n new j) i false) (reads (new j)))) e
          ∙ sym (ap (λ (t : Bool). t || any_of (map (λ (i : ℕ). get_or (reached k n old j) i false) (reads (old j)))) e)
      made_same false e r =
          ap₂ (λ (p : List Bool) (q : Gate). reach_step k j q (map (λ (i : ℕ). get_or p i false) (reads q))) r (agree j (eqb-false j k e))

-- ---- the bench after it

module _ (s : State) (k kind a b : ℕ) where
  -- the new gate, and the gates with it
  abbrev Q : Gate
  Q = gate kind a b

  abbrev changed : List Gate
  changed = set s.circuit.gates k Q

  same_count : length changed ≡ length s.circuit.gates
  same_count = length-set s.circuit.gates k Q

  -- a column of the gates with one changed
  column-set : k < length s.circuit.gates → (f : Gate → ℕ) → set (column f s.circuit.gates) k (f Q) ≡ column f changed
  column-set there f =
      padded-set most_gates 0 (map f s.circuit.gates) k (f Q) (omega (arith, length-map s.circuit.gates f))
      ∙ ap (padded most_gates 0) (sym (map-set f s.circuit.gates k Q))

  replaced_is : k < length s.circuit.gates → regated (full_bench s) k kind a b ≡ stale s k changed
  replaced_is there = regated_is s k changed Q (column-set there) (omega (arith, same_count))

  -- what it holds is what examining the old gates gives
  stale_was : s.circuit.inputs ≤ most_inputs → stale s k changed ≡ examined_as (stale s k changed) (gate_at s.circuit)
  unfolding stale examined_as full_bench
  stale_was n8 =
      let c = s.circuit in
      let n = c.inputs in
      let e = full_examined s n8 in
      let l = sym same_count in
      let p = ap (λ (z : Bench). z.depths) e ∙ ap (entries depth_step 0 (replicate n 0) (gate_at c) n) l in
      let q = ap (λ (z : Bench). z.and_depths) e ∙ ap (entries and_depth_step 0 (replicate n 0) (gate_at c) n) l in
      let r = ap (λ (z : Bench). z.values) e ∙ ap (entries words_step no_words (take n input_words) (gate_at c) n) l in
      λ i. holding (full_bench (gate_edited s k kind a b)) (p i) (q i) (r i)

  -- all but gate k are as they were
  agrees : Agree k (gate_at s.circuit) (gate_at (with_gate s.circuit k Q))
  agrees j ne = get_or-set_other s.circuit.gates k j Q no_gate ne

  -- what is reworked does not depend on the new gate
  readers_same : readers_of (with_gate s.circuit k Q) k ≡ readers_of s.circuit k
  readers_same =
      let c = s.circuit in
      reached_same k c.inputs (gate_at c) (gate_at (with_gate c k Q)) agrees (length changed) ∙ ap (reached k c.inputs (gate_at c)) same_count

-- an accepted edit, on a bench that stands for p
done_edit : (z : Bench) (p : Present) → Stands z p → (k kind a b : ℕ) → gate_edit_answer p k kind a b ≡ done
    → (r : Bench) (x : Edit) → Reexamined (regated z k kind a b) k r x → (x ≡ gate_edit p k kind a b) × (r ≡ bench_of (after_gate p k kind a b))
unfolding gate_edit_answer
done_edit z nothing st k kind a b h r x e = let y : ◌≡◌ {A = ℕ} 0 1 = cc in absurd (omega arith)
done_edit z (present s) st k kind a b h r x e =
    let only = is_matrix s.target in
    let qs = changed s k kind a b in
    let f = circuit_fits only (with_gate s.circuit k (gate kind a b)) (sound_kept s k kind a b st.sound h).circuit in
    let is = ap (λ (z : Bench). regated z k kind a b) st.is ∙ replaced_is s k kind a b (edit_fits s k kind a b h).there in
    let done = subst (λ (z : Bench). Reexamined z k r x) is e in
    let held = held_all (stale s k qs) k (gate_at s.circuit) (stale_was s k kind a b f.shape.n_most) in
    let given = done_given (gate_edit_answer (present s) k kind a b) (readers_of s.circuit k) (gate_edited s k kind a b) (present s) h in (
      fresh_lines s k qs f r x done ∙ ap (λ (m : List Bool). Ok (reworking m)) (readers_same s k kind a b) ∙ given.0,
      fresh_bench s k qs f (gate_at s.circuit) (agrees s k kind a b) held r x done ∙ given.1,
    )

-- a refused one leaves what was present, and reworks nothing
refused_edit : (p : Present) (k kind a b : ℕ) (w : Refusal) → gate_edit_answer p k kind a b ≡ Err w
    → (no_rework (Err w) ≡ gate_edit p k kind a b) × (bench_of p ≡ bench_of (after_gate p k kind a b))
unfolding gate_edit_answer
refused_edit nothing k kind a b w e = (ap no_rework (sym e), refl)
refused_edit (present s) k kind a b w e =
    refused_given (gate_edit_answer (present s) k kind a b) w (readers_of s.circuit k) (gate_edited s k kind a b) (present s) e

-- so what is given, by what was looked at, is what the edit promises
pub gate_given : (z : Bench) (k kind a b kind' a' b' : ℕ) (look : Answer) (r : Edited)
    → look ≡ gate_look z k kind a b → kind' ≡ kind % 256 → a' ≡ a % held16 → b' ≡ b % held16
    → GateSet look z k kind' a' b' r → GatePromise z k kind a b r.edit r.bench
gate_given z k kind a b kind' a' b' (Err w) r is ek ea eb h p st =
    let e = refused_edit p k kind a b w (sym (look_is z p st k kind a b) ∙ sym is) in
    (ap (λ (x : Edited). x.edit) h ∙ e.0, ap (λ (x : Edited). x.bench) h ∙ st.is ∙ e.1)
gate_given z k kind a b kind' a' b' (Ok _) r is ek ea eb h p st =
    let o = look_fits _ k kind a b done is refl in
    done_edit z p st k kind a b (sym (look_is z p st k kind a b) ∙ sym is) r.bench r.edit
    (subst (λ (y : Bench). Reexamined y k r.bench r.edit) (low_gate z k _ kind a b kind' a' b' _ o.gate (omega (arith, o.shape, o.there)) ek ea eb) h)

-- Appending a gate: what is looked at, that a sound state stays sound, which line is reworked, and what the bench holds after it. Assumes nothing.
use Rattle.std.specs.Prelude.{Ok, Err}
use Rattle.circuit.specs.Rules.{Answer, done}
use mathlib.Core.Path.{◌≡◌, refl, ap, ap₂, ◌∙◌, sym, subst}
use mathlib.Core.Bool.{Bool, true, false, ◌||◌}
use mathlib.Core.Logic.{⊎_elim}
use mathlib.Core.List.{List, [], ◌∷◌, ◌++◌, map}
use Prim.Native.Nat.{ℕ, ◌≤◌, ◌<◌, ◌+◌, ◌-◌, ◌%◌}
use native.Mathlib.Nat.{eq-or-lt_of_le}
use native.Mathlib.Numerals.{add-one}
use native.Mathlib.Omega.{arith}
use borrow.Author.Tests.{ltb-true, eq-eqb}
use lib.Dec.{ltb}
use lib.ListN.{length, get_or, set, take, replicate, length-append, length-replicate, get_or-append}
use lib.Seq.{get_or_at}
use Rattle.circuit.specs.declared.Refusal.{Refusal}
use Rattle.circuit.specs.declared.Refusal.TheVariants.{NothingOpen, Full}
use Rattle.circuit.specs.Gate.{no_words}
use Rattle.circuit.specs.Lines.{Gate, Listing, no_gate, gate, gate_at, with_more, reads, lines, any_of, depth_step, and_depth_step, words_step, reach_step, input_words}
use Rattle.circuit.specs.Rules.{unless, gate_answer, listing_answer}
use Rattle.circuit.specs.Sizes.{most_inputs, most_gates, most_lines, held16}
use Rattle.circuit.proofs.LineLaws.{made, lines_agree, unreached}
use Rattle.circuit.proofs.Listed.{column-put}
use Rattle.circuit.proofs.RuleLaws.{GateFits, gate_fits, out_below, out_there, circuit_fits, fits_circuit}
use Rattle.circuit.proofs.Shapes.{Shaped, shape_true, past}
use Rattle.targets.specs.Target.{is_matrix}
use Rattle.bench.specs.declared.Bench.{Bench}
use Rattle.bench.specs.declared.Edited.{Edited}
use Rattle.bench.specs.State.{State, Sound, Present, nothing, present}
use Rattle.bench.specs.Held.{empty_bench, full_bench, bench_of, Stands, holding}
use Rattle.bench.specs.Parts.{open_on, entries, examined_as, regated, HeldBut, Reexamined, append_look, GateSet}
use Rattle.bench.specs.Calls.{Edit, append_answer, appended, after_append, append_edit, readers_of, no_rework, AppendPromise}
use Rattle.bench.proofs.Standing.{full_examined, full_standing}
use Rattle.bench.proofs.Stood.{standing-shaped}
use Rattle.bench.proofs.Examining.{entries_next, inputs-length}
use Rattle.bench.proofs.Regating.{refused_given, done_given, low_gate, stale, regated_is, fresh_bench, fresh_lines}

-- ---- what is looked at

-- what an acceptance shows of the numbers
pub record LookFits (only : Bool) (n m g kind a b : ℕ) : Type 0 where
  pub shape : Shaped n m g
  pub room : g < most_gates
  pub gate : GateFits only (n + g) (gate kind a b)

pub look_fits : (z : Bench) (kind a b : ℕ) (r : Answer) → r ≡ append_look z kind a b → r ≡ done → LookFits z.is_matrix z.n z.m z.g kind a b
unfolding append_look
look_fits z kind a b r e h =
    let p = past (open_on z) NothingOpen (sym e ∙ h) in
    let q = past (ltb z.g most_gates) Full p.1 in
    record { shape = standing-shaped z.is_open z.n z.m z.g p.0; room = ltb-true z.g most_gates q.0; gate = gate_fits z.is_matrix (z.n + z.g) (gate kind a b) q.1 }

-- on a right bench it is what appending answers
look_is : (z : Bench) (p : Present) → Stands z p → (kind a b : ℕ)
    → append_look z kind a b ≡ append_answer p kind a b
unfolding append_look append_answer empty_bench full_bench
look_is z nothing st kind a b = ap (λ (z : Bench). append_look z kind a b) st.is
look_is z (present s) st kind a b =
    ap (λ (z : Bench). append_look z kind a b) st.is
    ∙ ap (λ (t : Bool). unless t NothingOpen (append_answer (present s) kind a b)) (full_standing s st.sound)

-- ---- the state after it

-- what an acceptance shows
pub record AppendFits (s : State) (kind a b : ℕ) : Type 0 where
  pub room : length s.circuit.gates < most_gates
  pub gate : gate_answer (is_matrix s.target) (s.circuit.inputs + length s.circuit.gates) (gate kind a b) ≡ done

pub append_fits : (s : State) (kind a b : ℕ) → append_answer (present s) kind a b ≡ done → AppendFits s kind a b
unfolding append_answer
append_fits s kind a b h =
    let g = length s.circuit.gates in
    let p = past (ltb g most_gates) Full h in
    record { room = ltb-true g most_gates p.0; gate = p.1 }

module _ (c : Listing) (q : Gate) where
  -- there is one gate more
  pub one_more : length (with_more c q).gates ≡ length c.gates + 1
  one_more = length-append c.gates (q ∷ [])

  -- the others are as they were
  pub others_same : (j : ℕ) → j < length c.gates → gate_at (with_more c q) j ≡ gate_at c j
  others_same j h = get_or-append c.gates (q ∷ []) no_gate j h

  -- it is the last
  pub last_gate : gate_at (with_more c q) (length c.gates) ≡ q
  last_gate = get_or_at c.gates q [] no_gate (length c.gates) refl

  -- a circuit with room and a gate that fits on the next line is accepted with it
  pub appended_accepted : (only : Bool) → listing_answer only c ≡ done → length c.gates < most_gates
      → gate_answer only (c.inputs + length c.gates) q ≡ done → listing_answer only (with_more c q) ≡ done
  appended_accepted only ok h a =
      let f = circuit_fits only c ok in
      let g = length c.gates in
      let s : Shaped c.inputs (length c.outs) (length (with_more c q).gates) =
      record { n_least = f.shape.n_least; n_most = f.shape.n_most; m_least = f.shape.m_least; m_most = f.shape.m_most; g_most = omega (arith, one_more) } in
      fits_circuit only (with_more c q)
      (record {
        shape = s;
        shaped-true = shape_true _ _ _ s;
        gates = λ j l.
            ⊎_elim
            (λ e. subst (λ (i : ℕ). gate_answer only (c.inputs + i) (gate_at (with_more c q) i) ≡ done) (sym e)
            (ap (gate_answer only (c.inputs + g)) last_gate ∙ a))
            (λ e. ap (gate_answer only (c.inputs + j)) (others_same j e) ∙ f.gates j e)
            (eq-or-lt_of_le {n = j} {m = g} (omega (arith, one_more)));
        outs = λ j l. out_there (c.inputs + length (with_more c q).gates) (get_or c.outs j 0) (omega (arith, out_below (c.inputs + g) (get_or c.outs j 0) (f.outs j l), one_more));
      })

  -- the line of the new gate is the one line that is reached from it
  pub appended_reaches : readers_of (with_more c q) (length c.gates) ≡ replicate (c.inputs + length c.gates) false ++ (true ∷ [])
  unfolding lines
  appended_reaches =
      let g = length c.gates in
      let gates = gate_at (with_more c q) in
      ap (lines (reach_step g) false (replicate c.inputs false) gates) (one_more ∙ add-one g)
      ∙ ap₂ (λ (p : List Bool) (t : Bool). p ++ (t ∷ [])) (unreached g c.inputs gates g (omega arith))
      (ap (λ (t : Bool). t || any_of (map (λ (i : ℕ). get_or (lines (reach_step g) false (replicate c.inputs false) gates g) i false) (reads (gates g)))) (eq-eqb g g refl))

-- an accepted gate keeps every rule
pub sound_appended : (s : State) (kind a b : ℕ) → Sound s → append_answer (present s) kind a b ≡ done → Sound (appended s kind a b)
sound_appended s kind a b ok h =
    let f = append_fits s kind a b h in
    record {
      circuit = appended_accepted s.circuit (gate kind a b) (is_matrix s.target) ok.circuit f.room f.gate;
      target = ok.target;
      limits = ok.limits;
    }

-- ---- the bench after it

module _ (s : State) (kind a b : ℕ) (room : length s.circuit.gates < most_gates) where
  abbrev Q : Gate
  Q = gate kind a b

  abbrev g : ℕ
  g = length s.circuit.gates

  abbrev longer : List Gate
  longer = s.circuit.gates ++ (Q ∷ [])

  pub regated_more : regated (full_bench s) g kind a b ≡ stale s g longer
  regated_more = regated_is s g longer Q (λ f. column-put f s.circuit.gates Q room) (omega (arith, one_more s.circuit Q))

  -- what an array holds for the lines there were, with what the new gate makes on its line
  grown : {A : Type 0} (step : ℕ → Gate → List A → A) (d : A) (ins : List A) → let n = s.circuit.inputs in length ins ≡ n → n ≤ most_inputs
      → (held : List A) → held ≡ entries step d ins (gate_at s.circuit) n g
      → set held (n + g) (made step d ins (gate_at (with_more s.circuit Q)) g) ≡ entries step d ins (gate_at (with_more s.circuit Q)) n (length longer)
  grown {A} step d ins is n_most held e =
      let c = s.circuit in
      let n = c.inputs in
      let new = gate_at (with_more c Q) in
      let same = lines_agree step d ins (gate_at c) new g (λ i h. others_same c Q i h) in
      ap (λ (l : List A). set l (n + g) (made step d ins new g)) (e ∙ ap (λ (l : List A). l ++ replicate (most_lines - (n + g)) d) (sym same))
      ∙ entries_next step d ins new n is g (omega (arith, room)) (made step d ins new g) refl
      ∙ ap (entries step d ins new n) (sym (one_more c Q))

  -- so it holds what the new gates give, but for the new line
  stale_but : s.circuit.inputs ≤ most_inputs → HeldBut (stale s g longer) g (gate_at (with_more s.circuit Q))
  unfolding stale examined_as full_bench
  stale_but n_most =
      let n = s.circuit.inputs in
      let new = gate_at (with_more s.circuit Q) in
      let e = full_examined s n_most in
      let p = grown depth_step 0 (replicate n 0) (length-replicate n 0) n_most _ (ap (λ (z : Bench). z.depths) e) in
      let q = grown and_depth_step 0 (replicate n 0) (length-replicate n 0) n_most _ (ap (λ (z : Bench). z.and_depths) e) in
      let r = grown words_step no_words (take n input_words) (inputs-length n n_most) n_most _ (ap (λ (z : Bench). z.values) e) in
      record {
        depth = made depth_step 0 (replicate n 0) new g;
        and_depth = made and_depth_step 0 (replicate n 0) new g;
        value = made words_step no_words (take n input_words) new g;
        is = λ i. holding (full_bench (appended s kind a b)) (p i) (q i) (r i);
      }

-- an accepted append, on a bench that stands for p
done_append : (z : Bench) (p : Present) → Stands z p → (kind a b : ℕ) → append_answer p kind a b ≡ done
    → (r : Bench) (x : Edit) → Reexamined (regated z z.g kind a b) z.g r x → (x ≡ append_edit p kind a b) × (r ≡ bench_of (after_append p kind a b))
unfolding append_answer full_bench
done_append z nothing st kind a b h r x e = let y : ◌≡◌ {A = ℕ} 0 1 = cc in absurd (omega arith)
done_append z (present s) st kind a b h r x e =
    let c = s.circuit in
    let k = length c.gates in
    let q = gate kind a b in
    let qs = c.gates ++ (q ∷ []) in
    let room = (append_fits s kind a b h).room in
    let f = circuit_fits (is_matrix s.target) (with_more c q) (sound_appended s kind a b st.sound h).circuit in
    let done = subst (λ (z : Bench). Reexamined z k r x) (regated_more s kind a b room) (subst (λ (z : Bench). Reexamined (regated z z.g kind a b) z.g r x) st.is e) in
    let given = done_given (append_answer (present s) kind a b) (readers_of (with_more c q) k) (appended s kind a b) (present s) h in (
      fresh_lines s k qs f r x done ∙ given.0,
      fresh_bench s k qs f (gate_at (with_more c q)) (λ j ne. refl) (stale_but s kind a b room f.shape.n_most) r x done ∙ given.1,
    )

-- a refused one leaves what was present, and reworks nothing
refused-append : (p : Present) (kind a b : ℕ) (w : Refusal) → append_answer p kind a b ≡ Err w
    → (no_rework (Err w) ≡ append_edit p kind a b) × (bench_of p ≡ bench_of (after_append p kind a b))
unfolding append_answer
refused-append nothing kind a b w e = (ap no_rework (sym e), refl)
refused-append (present s) kind a b w e =
    refused_given (append_answer (present s) kind a b) w (readers_of (with_more s.circuit (gate kind a b)) (length s.circuit.gates)) (appended s kind a b) (present s) e

-- so what is given, by what was looked at, is what appending promises
pub append_given : (z : Bench) (kind a b kind' a' b' : ℕ) (look : Answer) (r : Edited)
    → look ≡ append_look z kind a b → kind' ≡ kind % 256 → a' ≡ a % held16 → b' ≡ b % held16
    → GateSet look z z.g kind' a' b' r → AppendPromise z kind a b r.edit r.bench
append_given z kind a b kind' a' b' (Err w) r is ek ea eb h p st =
    let e = refused-append p kind a b w (sym (look_is z p st kind a b) ∙ sym is) in
    (ap (λ (x : Edited). x.edit) h ∙ e.0, ap (λ (x : Edited). x.bench) h ∙ st.is ∙ e.1)
append_given z kind a b kind' a' b' (Ok _) r is ek ea eb h p st =
    let o = look_fits _ kind a b done is refl in
    done_append z p st kind a b (sym (look_is z p st kind a b) ∙ sym is) r.bench r.edit
    (subst (λ (y : Bench). Reexamined y z.g r.bench r.edit) (low_gate z z.g _ kind a b kind' a' b' _ o.gate (omega (arith, o.shape, o.room)) ek ea eb) h)

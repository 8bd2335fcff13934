-- Request 3: sweep out the trial gates, and append. What a sweep drops, merges and keeps; that outputs and their depths stay; that a second sweep
-- changes nothing; and that the freed gates can be added again at the end, up to 248 and no further.
use Rattle.std.specs.Prelude.{Ok, Err}
use mathlib.Core.Path.{◌≡◌, refl, sym, ap, ap₂, ◌∙◌, subst}
use mathlib.Core.Bool.{Bool, true, false, cond, not}
use mathlib.Core.Logic.{◌↔◌, ⊎_elim}
use mathlib.Core.List.{List, [], ◌∷◌, ◌++◌, map, append_assoc, append-nil, Memᴰ}
use Prim.Native.Nat.{ℕ, zero, suc, ◌+◌, ◌-◌, ◌^◌, ◌≤◌, ◌<◌}
use native.Mathlib.Omega.{arith}
use native.Mathlib.Numerals.{add-one}
use borrow.Author.Tests.{lt-ltb, le-ltb, ltb-true, ltb-false}
use lib.Dec.{ltb, eqb}
use lib.ListN.{length, get_or, take, replicate, length-replicate, get_or-eq_default}
use Rattle.circuit.specs.declared.Refusal.TheVariants.{Full}
use Rattle.circuit.specs.Gate.{no_words}
use Rattle.circuit.specs.Lines.{Gate, Listing, gate, no_gate, gate_at, with_gates, with_more, lines, depth_step, and_depth_step, words_step, input_words, depths, and_depths, output_on, counts_of, padded}
use Rattle.circuit.specs.Rules.{Answer, done, unless, gate_answer}
use Rattle.circuit.specs.Sizes.{most_gates, most_lines}
use Rattle.circuit.proofs.LineLaws.{lines_agree, lines_length, lines_one, place}
use Rattle.circuit.proofs.Padding.{pad_read}
use Rattle.circuit.proofs.RuleLaws.{GatesDone, circuit_fits}
use Rattle.stored.specs.Stored.{stored}
use Rattle.sweep.specs.Sweep.{used, swept}
use Rattle.sweep.proofs.SameLaws.{Alike, same_alike}
use Rattle.sweep.proofs.Theorems as sweeps
use Rattle.sweep.proofs.Reaching.{used_exactly}
use Rattle.targets.specs.Target.{is_matrix, wants, as_brought}
use Rattle.bench.specs.declared.Bench.{Bench}
use Rattle.bench.specs.declared.Reworked.{Reworked}
use Rattle.bench.specs.declared.Verdict.TheVariants.{Wrong, OverGates, OverDepth, OverAndDepth, Pass}
use Rattle.bench.specs.State.{limits, State, with_circuit, with_limits, Sound, Present, present, differs, least, first_output, first_input, verdict_of, report_of}
use Rattle.bench.specs.Held.{empty_bench, full_bench, bench_of, Stands}
use Rattle.bench.specs.Calls.{Edit, listed_in, after, open_answer, after_sweep, sweep_edit, append_answer, appended, append_edit, places_from, readers_of, reworking, edit_by, SweepPromise, AppendPromise}
use Rattle.bench.specs.Run.{Call, present_from, present_after, Runs}
use Rattle.bench.specs.Run.Call.{sweeping, appending}
use Rattle.bench.proofs.Appends.{one_more, others_same, appended_reaches}
use Rattle.bench.proofs.Examining.{inputs-length}
use Rattle.bench.proofs.Places.{size_places, places_append, places_none}
use Rattle.bench.proofs.Readers.{Affected, some_of, any-of, marked_affected, affected_marked}
use Rattle.bench.proofs.RunLaws.{SameLine, after-calls, opens}
use Rattle.bench.proofs.Standing.{all_below}
use Rattle.bench.proofs.Sweeps.{outs_length, sound_sweep}
use Rattle.report.proofs.Smallest.{least_same}
use Rattle.claims.proofs.FirstDemand.{answer_in, append-answer}

-- ---- What an output reaches, without the recursion that computes it: it names a line that is the gate's, or that reads it, directly or through others.

-- an output reaches gate k
abbrev pub Reaches : Listing → ℕ → Type 0
Reaches c k = (o : ℕ) × (Memᴰ o c.outs × Affected c k o)

module _ (s : State) (ok : Sound s) where
  abbrev c : Listing
  c = s.circuit

  abbrev only : Bool
  only = is_matrix s.target

  -- the state after a sweep
  abbrev cleared : State
  cleared = with_circuit s (swept c)

  -- The gates that are dropped are those that no output reaches.
  pub used_means : (k : ℕ) → k < length c.gates → (used c (c.inputs + k) ≡ true) ↔ Reaches c k
  used_means k there =
      let from : ℕ → Bool = λ i. get_or (readers_of c k) i false in
      let is = used_exactly only c ok.circuit k there in
      let below = all_below only c (circuit_fits only c ok.circuit) in (
        λ u. let r = some_of from c.outs (sym is ∙ u) in (r.0, (r.1.0, marked_affected c k r.0 r.1.1)),
        λ r. is ∙ any-of from r.0 c.outs r.1.0 (affected_marked c k below there r.0 r.1.1),
      )

  -- ---- "Outputs and their depths are the same on all inputs."

  -- what the line that output j of a circuit names has
  abbrev out_depth : Listing → ℕ → ℕ
  out_depth d j = get_or (depths d.inputs (gate_at d) (length d.gates)) (get_or d.outs j 0) 0

  abbrev out_and_depth : Listing → ℕ → ℕ
  out_and_depth d j = get_or (and_depths d.inputs (gate_at d) (length d.gates)) (get_or d.outs j 0) 0

  pub record SameOutput (j : ℕ) : Type 0 where
    pub value : (x : ℕ) → output_on (swept c) x j ≡ output_on c x j
    pub depth : out_depth (swept c) j ≡ out_depth c j
    pub and_depth : out_and_depth (swept c) j ≡ out_and_depth c j

  pub outputs_stay : (length (swept c).outs ≡ length c.outs) × ((j : ℕ) → j < length c.outs → SameOutput j)
  outputs_stay = (
    outs_length c,
    λ j h. record {
      value = sweeps.same_values only c ok.circuit j h;
      depth = sweeps.same_depth only c ok.circuit j h;
      and_depth = sweeps.same_and_depth only c ok.circuit j h;
    },
  )

  -- ---- So the report changes in its gate counts alone and, by them, in the verdict's gate limit.

  -- how many gates went
  abbrev pub freed : ℕ
  freed = length c.gates - length (swept c).gates

  -- the state as it was, with a gate limit that is higher by as many gates as went
  abbrev pub allowing : State
  allowing = with_limits s (limits (s.limits.gates + freed) s.limits.depth s.limits.and_depth)

  fewer : length (swept c).gates ≤ length c.gates
  fewer = sweeps.swept_fewer only c ok.circuit

  first-output : (x : ℕ) → first_output cleared x ≡ first_output s x
  first-output x =
      ap (λ (m : ℕ). least (differs cleared x) m 0) (outs_length c)
      ∙ least_same (differs cleared x) (differs s x) (length c.outs) 0
      (λ j l h. ap (λ (v : ℕ). not (eqb v (wants s.target x j))) (sweeps.same_values only c ok.circuit j (omega arith) x))

  first-input : first_input cleared ≡ first_input s
  unfolding swept
  first-input =
      least_same (λ (x : ℕ). ltb (first_output cleared x) (length (swept c).outs)) (λ (x : ℕ). ltb (first_output s x) (length c.outs)) (2 ^ c.inputs) 0
      (λ x l h. ap₂ ltb (first-output x) (outs_length c))

  -- over the limit now exactly where it was over the higher one
  over_same : (a : ℕ) → ltb a (length (swept c).gates) ≡ ltb (a + freed) (length c.gates)
  over_same a = by (ltb a (length (swept c).gates)) refl where
    by : (t : Bool) → ltb a (length (swept c).gates) ≡ t → t ≡ ltb (a + freed) (length c.gates)
    by true e = sym (lt-ltb (a + freed) (length c.gates) (omega (arith, ltb-true a (length (swept c).gates) e, fewer)))
    by false e = sym (le-ltb (a + freed) (length c.gates) (omega (arith, ltb-false a (length (swept c).gates) e, fewer)))

  verdict_same : verdict_of cleared ≡ verdict_of allowing
  unfolding verdict_of swept
  verdict_same =
      let x = first-input in
      let o = ap (λ (y : ℕ). first_output cleared y) x ∙ first-output (first_input s) in
      let g = over_same s.limits.gates in
      let d = sweeps.swept_depth only c ok.circuit in
      let a = sweeps.swept-and_depth only c ok.circuit in
      λ i.
      cond (ltb (x i) (2 ^ c.inputs)) (Wrong (record { input = x i; output = o i }))
      (cond (g i) OverGates (cond (ltb s.limits.depth (d i)) OverDepth (cond (ltb s.limits.and_depth (a i)) OverAndDepth Pass)))

  pub record SweptReport : Type 0 where
    pub gates : (report_of cleared).gates ≡ length (swept c).gates
    pub fewer : (report_of cleared).gates ≤ (report_of s).gates
    pub counts : (report_of cleared).counts ≡ counts_of (swept c)
    pub depth : (report_of cleared).depth ≡ (report_of s).depth
    pub and_depth : (report_of cleared).and_depth ≡ (report_of s).and_depth
    pub verdict : (report_of cleared).verdict ≡ (report_of allowing).verdict

  pub report_after_sweep : SweptReport
  unfolding report_of
  report_after_sweep = record {
    gates = refl;
    fewer = fewer;
    counts = refl;
    depth = sweeps.swept_depth only c ok.circuit;
    and_depth = sweeps.swept-and_depth only c ok.circuit;
    verdict = verdict_same;
  }

  -- ---- "A second sweep changes nothing": what is present is the same, and so are its stored bytes.

  pub second_sweep : after_sweep (present cleared) ≡ present cleared
  second_sweep = ap (λ (d : Listing). present (with_circuit s d)) (sweeps.swept_again only c ok.circuit)

  pub second_bytes : stored (swept (swept c)) ≡ stored (swept c)
  second_bytes = ap stored (sweeps.swept_again only c ok.circuit)

  -- ---- Nothing is left that a sweep would take. Every kept gate is reached from an output;
  pub kept_reached : (k : ℕ) → k < length (swept c).gates → Reaches (swept c) k
  kept_reached k h =
      let accepted = sweeps.swept_accepted only c ok.circuit in
      let from : ℕ → Bool = λ i. get_or (readers_of (swept c) k) i false in
      let r = some_of from (swept c).outs (sym (used_exactly only (swept c) accepted k h) ∙ sweeps.swept-reached only c ok.circuit k h) in
      (r.0, (r.1.0, marked_affected (swept c) k r.0 r.1.1))

  -- no two kept gates are of one kind with the same operands, in either order;
  pub kept_differ : (i k : ℕ) → i < k → k < length (swept c).gates → Alike (gate_at (swept c) k) (gate_at (swept c) i) → ⊥
  kept_differ i k h l a =
      let t = sym (same_alike (gate_at (swept c) k) (gate_at (swept c) i) a) ∙ sweeps.swept_distinct only c ok.circuit i k h l in
      let z : ◌≡◌ {A = ℕ} 0 1 = ap (λ (b : Bool). cond b 0 1) t in
      omega arith

  -- and they stand in the order of their first occurrences, each with its own order of operands (`First`: which gate it was, and that no reached gate before
  -- that one goes to its line).
  pub kept_first : (k : ℕ) → k < length (swept c).gates → sweeps.First only c ok.circuit k
  kept_first = sweeps.swept_first only c ok.circuit

  pub kept_in_order : {k l : ℕ} (v : sweeps.First only c ok.circuit k) (w : sweeps.First only c ok.circuit l) → k < l → v.gate_no < w.gate_no
  kept_in_order = sweeps.swept_order only c ok.circuit

  -- ---- A swept circuit is sound: no open refuses it.
  pub swept_opens : open_answer (stored (swept c)) (as_brought s.target) ≡ done
  swept_opens = opens cleared (sound_sweep s ok)

-- ---- "The freed gates can be added again at the end by a new append call": up to 248,

-- one append after the other
abbrev pub appends : List Gate → List Call
appends = map (λ (q : Gate). appending q.kind q.left q.right)

-- the state with these gates after its own
abbrev pub with_all : State → List Gate → State
with_all s qs = with_circuit s (with_gates s.circuit (s.circuit.gates ++ qs))

-- one gate, where there is room and it fits on the next line
append_one : (s : State) (q : Gate) → let c = s.circuit in length c.gates < most_gates → gate_answer (is_matrix s.target) (c.inputs + length c.gates) q ≡ done
    → present_from (present s) (appends (q ∷ [])) ≡ present (with_all s (q ∷ []))
unfolding append_answer
append_one s q room fits =
    let g = length s.circuit.gates in
    let t = lt-ltb g most_gates room in
    λ i. after (unless (t i) Full (fits i)) (appended s q.kind q.left q.right) (present s)

-- gates that fit each on its own line, together with those there at most 248, are all accepted, in order
pub append-all : (s : State) (qs : List Gate) → let c = s.circuit in length c.gates + length qs ≤ 248
    → GatesDone (is_matrix s.target) (c.inputs + length c.gates) qs → present_from (present s) (appends qs) ≡ present (with_all s qs)
append-all s [] room fits = ap (λ (l : List Gate). present (with_circuit s (with_gates s.circuit l))) (sym (append-nil s.circuit.gates))
append-all s (q ∷ qs) room fits =
    let c = s.circuit in
    let only = is_matrix s.target in
    let g = length c.gates in
    let e : c.inputs + g + 0 ≡ c.inputs + g = omega arith in
    let next = with_all s (q ∷ []) in
    let more = one_more c q in
    ap (λ (p : Present). present_from p (appends qs)) (append_one s q (omega arith) (subst (λ (x : ℕ). gate_answer only x q ≡ done) e (fits 0 (omega arith))))
    ∙ append-all next qs (omega (arith, more))
    (λ j h. let f : c.inputs + g + suc j ≡ c.inputs + length next.circuit.gates + j = omega (arith, more) in
    subst (λ (x : ℕ). gate_answer only x (get_or qs j no_gate) ≡ done) f (fits (suc j) (omega arith)))
    ∙ ap (λ (l : List Gate). present (with_circuit s (with_gates c l))) (append_assoc c.gates (q ∷ []) qs)

-- so after a sweep as many as went can be added again, whatever they are, if each fits on its line;
pub freed_again : (s : State) (ok : Sound s) (qs : List Gate) → let c = s.circuit in length qs ≤ freed s ok
    → GatesDone (is_matrix s.target) (c.inputs + length (swept c).gates) qs
    → present_from (present s) (sweeping ∷ appends qs) ≡ present (with_all (with_circuit s (swept c)) qs)
unfolding swept
freed_again s ok qs h fits =
    let only = is_matrix s.target in
    let most = (circuit_fits only s.circuit ok.circuit).shape.g_most in
    append-all (cleared s ok) qs (omega (arith, h, most, sweeps.swept_fewer only s.circuit ok.circuit)) fits

-- and no further (18; `append-numbers` in FirstDemand: exactly there, whatever the gate).
pub no_further : (s : State) → 248 ≤ length s.circuit.gates → (kind a b : ℕ) → append_answer (present s) kind a b ≡ Err Full
unfolding append_answer
no_further s h kind a b =
    let c = s.circuit in
    let g = length c.gates in
    ap (λ (t : Bool). unless t Full (gate_answer (is_matrix s.target) (c.inputs + g) (gate kind a b))) (le-ltb g most_gates h)

-- ---- "A sweep lists the line of each gate it keeps, renumbered, and an append its one new line."

-- so many lines are listed as `count` says: those from `line` on, ascending, and zeros past them
pub record ListsFrom (line many : ℕ) (lines : List ℕ) (count : ℕ) : Type 0 where
  pub counted : count ≡ many
  pub each : (k : ℕ) → k < many → get_or lines k 0 ≡ line + k
  pub rest : (k : ℕ) → many ≤ k → get_or lines k 0 ≡ 0

-- the same of an edit's answer
abbrev pub EditLists : ℕ → ℕ → Edit → Type 0
EditLists line many e = let r = listed_in e in ListsFrom line many r.lines r.count

all_places : (i g : ℕ) → length (places_from i (replicate g true)) ≡ g
unfolding places_from
all_places i zero = refl
all_places i (suc g) = ap suc (all_places (suc i) g)

place_at : (i g k : ℕ) → k < g → get_or (places_from i (replicate g true)) k 0 ≡ i + k
unfolding places_from
place_at i zero k h = absurd (omega arith)
place_at i (suc g) zero h = omega arith
place_at i (suc g) (suc k) h = omega (arith, place_at (suc i) g k (omega arith))

-- a set that is all lines from one on
lists_from : (n g : ℕ) → EditLists n g (Ok (reworking (replicate n false ++ replicate g true)))
lists_from n g =
    let marks = replicate n false ++ replicate g true in
    let z : 0 + length (replicate n false) ≡ n = omega (arith, length-replicate n false) in
    let is : places_from 0 marks ≡ places_from n (replicate g true) =
    places_append 0 (replicate n false) (replicate g true) ∙ ap₂ (λ (l : List ℕ) (i : ℕ). l ++ places_from i (replicate g true)) (places_none 0 n) z in
    let at : (k : ℕ) → get_or (padded most_lines 0 (places_from 0 marks)) k 0 ≡ get_or (places_from n (replicate g true)) k 0 =
    λ k. pad_read (places_from 0 marks) (most_lines - length (places_from 0 marks)) k 0 ∙ ap (λ (l : List ℕ). get_or l k 0) is in
    record {
      counted = size_places 0 marks ∙ ap length is ∙ all_places n g;
      each = λ k h. at k ∙ place_at n g k h;
      rest = λ k h. at k ∙ get_or-eq_default (places_from n (replicate g true)) 0 (omega (arith, all_places n g));
    }

pub sweep_lists : (s : State) → EditLists s.circuit.inputs (length (swept s.circuit).gates) (sweep_edit (present s))
unfolding swept
sweep_lists s = lists_from s.circuit.inputs (length (swept s.circuit).gates)

pub append_lists : (s : State) (kind a b : ℕ) → append_answer (present s) kind a b ≡ done
    → EditLists (s.circuit.inputs + length s.circuit.gates) 1 (append_edit (present s) kind a b)
append_lists s kind a b e =
    let c = s.circuit in
    let line = c.inputs + length c.gates in
    let is = ap (λ (x : Answer). edit_by x (readers_of (with_more c (gate kind a b)) (length c.gates))) e ∙ ap (λ (marks : List Bool). Ok (reworking marks)) (appended_reaches c (gate kind a b)) in
    subst (EditLists line 1) (sym is) (lists_from line 1)

-- An append leaves what is held for all other lines.
module _ (s : State) (ok : Sound s) (kind a b : ℕ) where
  abbrev d : Listing
  d = s.circuit

  abbrev new : Listing
  new = with_more d (gate kind a b)

  abbrev last : ℕ
  last = d.inputs + length d.gates

  held_same : {A : Type 0} (step : ℕ → Gate → List A → A) (e : A) (ins : List A) → length ins ≡ d.inputs → (i : ℕ) → (i ≡ last → ⊥)
      → get_or (padded most_lines e (lines step e ins (gate_at new) (length new.gates))) i e ≡ get_or (padded most_lines e (lines step e ins (gate_at d) (length d.gates))) i e
  held_same {A} step e ins is i other =
      let g = length d.gates in
      let old = lines step e ins (gate_at d) g in
      let longer = lines step e ins (gate_at new) in
      let same : longer g ≡ old = lines_agree step e ins (gate_at d) (gate_at new) g (λ j h. others_same d (gate kind a b) j h) in
      pad_read (longer (length new.gates)) (most_lines - length (longer (length new.gates))) i e
      ∙ ap (λ (j : ℕ). get_or (longer j) i e) (one_more d (gate kind a b) ∙ add-one g)
      ∙ ⊎_elim
      (λ h. lines_one step e ins (gate_at new) g i (omega (arith, is)) ∙ ap (λ (l : List A). get_or l i e) same)
      (⊎_elim (λ q. absurd (other q))
      (λ h. get_or-eq_default (longer (suc g)) e (omega (arith, is, lines_length step e ins (gate_at new) (suc g)))
      ∙ sym (get_or-eq_default old e (omega (arith, is, lines_length step e ins (gate_at d) g)))))
      (place i last)
      ∙ sym (pad_read old (most_lines - length old) i e)

  line_kept : (i : ℕ) → (i ≡ last → ⊥) → SameLine (full_bench s) (full_bench (appended s kind a b)) i
  unfolding full_bench
  line_kept i other =
      let n = d.inputs in
      let most = (circuit_fits (is_matrix s.target) d ok.circuit).shape.n_most in
      record {
        depth = held_same depth_step 0 (replicate n 0) (length-replicate n 0) i other;
        and_depth = held_same and_depth_step 0 (replicate n 0) (length-replicate n 0) i other;
        values = held_same words_step no_words (take n input_words) (inputs-length n most) i other;
      }

  pub append_leaves : (x y : Bench) (edit : Edit) → Stands x (present s) → AppendPromise x kind a b edit y → (i : ℕ) → (i ≡ last → ⊥) → SameLine x y i
  append_leaves x y edit st promise i other =
      subst (λ (z : Bench). SameLine z y i) (sym st.is)
      (subst (λ (z : Bench). SameLine (full_bench s) z i) (sym (promise (present s) st).1) (by (append_answer (present s) kind a b))) where
        by : (w : Answer) → SameLine (full_bench s) (bench_of (after w (appended s kind a b) (present s))) i
        by (Ok _) = line_kept i other
        by (Err w) = record { depth = refl; and_depth = refl; values = refl }

-- After any calls: what a sweep and an append on the bench list, and leave.
module _ {b : Bench} {calls : List Call} (run : Runs empty_bench calls b) (s : State) (here : present_after calls ≡ present s) where
  stands : Stands b (present s)
  stands = subst (λ (p : Present). Stands b p) here (after-calls run)

  pub sweep_listed : (edit : Edit) (next : Bench) → SweepPromise b edit next → EditLists s.circuit.inputs (length (swept s.circuit).gates) edit
  sweep_listed edit next h = subst (EditLists s.circuit.inputs (length (swept s.circuit).gates)) (sym (h (present s) stands).0) (sweep_lists s)

  pub append-listed : (kind x y : ℕ) (edit : Edit) (next : Bench) → AppendPromise b kind x y edit next → (r : Reworked) → edit ≡ Ok r
      → ListsFrom (s.circuit.inputs + length s.circuit.gates) 1 r.lines r.count
  append-listed kind x y edit next h r e =
      let q = sym (h (present s) stands).0 ∙ e in
      subst (EditLists (s.circuit.inputs + length s.circuit.gates) 1) q
      (append_lists s kind x y (sym (append-answer (present s) kind x y) ∙ ap answer_in q))

  pub append_unchanged : (kind x y : ℕ) (edit : Edit) (next : Bench) → AppendPromise b kind x y edit next
      → (i : ℕ) → (i ≡ s.circuit.inputs + length s.circuit.gates → ⊥) → SameLine b next i
  append_unchanged kind x y edit next h = append_leaves s stands.sound kind x y b next edit stands h

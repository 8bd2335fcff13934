-- After any calls the bench stands for what the definition says is present, so a report is that of a first-time examination; and a gate edit
-- leaves what is held for the lines that it does not rework. Assumes nothing.
use Rattle.std.specs.Prelude.{Result, Ok, Err}
use Rattle.circuit.specs.Rules.{Answer, done}
use mathlib.Core.Path.{◌≡◌, refl, ap, ◌∙◌, sym, subst}
use mathlib.Core.Bool.{false}
use mathlib.Core.List.{List, [], ◌∷◌, ◌++◌}
use Prim.Native.Nat.{ℕ, ◌<◌, ◌-◌}
use lib.ListN.{length, get_or, take, replicate, length-set, length-replicate}
use lib.Seq.{get_or-set_other, set-get_or}
use borrow.Author.Tests.{lt-ltb}
use Rattle.circuit.specs.declared.Refusal.{Refusal}
use Rattle.circuit.specs.declared.Refusal.TheVariants.{Target as BadTarget, NotThere}
use Rattle.circuit.specs.Gate.{no_words}
use Rattle.circuit.specs.Lines.{Gate, Listing, no_gate, gate_at, lines, depth_step, and_depth_step, words_step, input_words, reached, padded, gate, with_gate, with_gates}
use Rattle.circuit.specs.Rules.{unless, and_then}
use Rattle.circuit.specs.Sizes.{most_lines}
use Rattle.circuit.proofs.LineLaws.{same_lines}
use Rattle.circuit.proofs.Padding.{pad_read}
use Rattle.circuit.proofs.RuleLaws.{circuit_fits}
use Rattle.stored.specs.Stored.{stored}
use Rattle.stored.specs.Writing.{room_after}
use Rattle.stored.proofs.Round.{listing-stored, answer_stored}
use Rattle.targets.specs.Target.{is_matrix, Brought, as_brought, target_in, brought_fits}
use Rattle.targets.proofs.Bytes.{brought-back, brought-fits}
use Rattle.bench.specs.declared.Bench.{Bench}
use Rattle.bench.specs.declared.Report.{Report}
use Rattle.bench.specs.State.{Limits, State, state, with_circuit, with_target, Present, nothing, present, Sound, SoundPresent}
use Rattle.bench.specs.Held.{empty_bench, full_bench, bench_of, Stands}
use Rattle.bench.specs.Calls.{Edit, after, open_answer, open_state, gate_edit_answer, gate_edited, after_gate, readers_of, edit_by, gate_edit, reported, output_edit_answer, entry_edit_answer, limits_answer, no_rework, sweep_edit, append_edit, store_answer, stored_of, View, as_they_are, bench_after_open, GatePromise, ReportPromise}
use Rattle.bench.specs.Run.{Call, after_call, present_from, present_after, StepGiven, RunsBy, Runs}
use Rattle.bench.specs.Run.Call.{opening, replacing, pointing, changing, limiting, sweeping, appending, reporting, storing}
use Rattle.bench.proofs.Examining.{inputs-length}
use Rattle.bench.proofs.Unique.{one_present}
use Rattle.bench.proofs.OpenLaws.{open_stands}
use Rattle.bench.proofs.SoundLaws.{sound_call, Callable}

-- ---- any calls

-- one call: the bench after it stands for what is present after it
pub step_stands : {v : View} {b next : Bench} {call : Call} (p : Present) → Stands b p → StepGiven v b call next → Stands next (after_call p call)
step_stands {b} p k (StepGiven.opened {bytes} {t} {l} answer small promise) =
    record { sound = sound_call p (opening bytes t l) small k.sound; is = promise.1 ∙ open_stands b bytes t l k }
step_stands p k (StepGiven.replaced {k = g} {kind} {x} {y} edit promise) = record { sound = sound_call p (replacing g kind x y) tt k.sound; is = (promise p k).1 }
step_stands p k (StepGiven.pointed {j} {line} edit promise) = record { sound = sound_call p (pointing j line) tt k.sound; is = (promise p k).1 }
step_stands p k (StepGiven.changed {i} {value} {constant} edit promise) =
    record { sound = sound_call p (changing i value constant) tt k.sound; is = (promise p k).1 }
step_stands p k (StepGiven.limited {l} edit small promise) = record { sound = sound_call p (limiting l) small k.sound; is = (promise p k).1 }
step_stands p k (StepGiven.swept edit promise) = record { sound = sound_call p sweeping tt k.sound; is = (promise p k).1 }
step_stands p k (StepGiven.appended {kind} {x} {y} edit promise) = record { sound = sound_call p (appending kind x y) tt k.sound; is = (promise p k).1 }
step_stands p k (StepGiven.reported r promise) = k
step_stands p k (StepGiven.stored r out promise) = k

pub runs_stand : {b last : Bench} {calls : List Call} (p : Present) → Stands b p → Runs b calls last → Stands last (present_from p calls)
runs_stand p k RunsBy.none = k
runs_stand p k (RunsBy.more {call} mid step rest) = runs_stand (after_call p call) (step_stands p k step) rest

-- a bench with nothing open stands for nothing
pub empty_stands : Stands empty_bench nothing
empty_stands = record { sound = tt; is = refl }

-- after any calls, the bench holds exactly what a first-time examination of what is present gives
pub after-calls : {b : Bench} {calls : List Call} → Runs empty_bench calls b → Stands b (present_after calls)
after-calls run = runs_stand nothing empty_stands run

-- so whatever a function promises on a bench that stands for something holds of what is present
pub promised_after_calls : (Q : Present → Type 0) {b : Bench} {calls : List Call} → Runs empty_bench calls b → ((p : Present) → Stands b p → Q p) → Q (present_after calls)
promised_after_calls Q {calls} run promise = promise (present_after calls) (after-calls run)

-- and a report says exactly what a first-time examination of it says
pub report_after_calls : {b : Bench} {calls : List Call} {r : Result Report Refusal} → Runs empty_bench calls b → ReportPromise b r → r ≡ reported (present_after calls)
report_after_calls {r} run promise = promised_after_calls (λ (p : Present). r ≡ reported p) run promise

-- ---- the promises can be met

-- what holds of what is present holds of whatever the bench stands for, since that is one thing
pub met : (b : Bench) (p : Present) → Stands b p → (Q : Present → Type 0) → Q p → (q : Present) → Stands b q → Q q
met b p k Q x q l = subst Q (one_present b p q k l) x

-- after any calls, a further one has a bench and an answer that its promise allows, however answers are given
pub step_exists : (v : View) (b : Bench) (p : Present) → Stands b p → (call : Call) → Callable call → StepGiven v b call (bench_of (after_call p call))
step_exists v b p k (opening bytes t l) small = StepGiven.opened (v.answer (open_answer bytes t)) small (refl, sym (open_stands b bytes t l k))
step_exists v b p k (replacing g kind x y) u = StepGiven.replaced (v.edit (gate_edit p g kind x y)) (met b p k _ (refl, refl))
step_exists v b p k (pointing j line) u = StepGiven.pointed (v.edit (no_rework (output_edit_answer p j line))) (met b p k _ (refl, refl))
step_exists v b p k (changing i value constant) u = StepGiven.changed (v.edit (no_rework (entry_edit_answer p i value constant))) (met b p k _ (refl, refl))
step_exists v b p k (limiting l) small = StepGiven.limited (v.edit (no_rework (limits_answer p))) small (met b p k _ (refl, refl))
step_exists v b p k sweeping u = StepGiven.swept (v.edit (sweep_edit p)) (met b p k _ (refl, refl))
step_exists v b p k (appending kind x y) u = StepGiven.appended (v.edit (append_edit p kind x y)) (met b p k _ (refl, refl))
step_exists v b p k reporting u = subst (λ (z : Bench). StepGiven v b reporting z) k.is (StepGiven.reported (v.report (reported p)) (met b p k _ refl))
step_exists v b p k (storing room) u =
    let r = store_answer p (length room) in
    subst (λ (z : Bench). StepGiven v b (storing room) z) k.is (StepGiven.stored (v.writing r) (room_after r (stored_of p) room) (met b p k _ (refl, refl)))

-- ---- a call is the same call however its answer is given

-- what a call is given is what a caller can give
callable : {v : View} {b next : Bench} {call : Call} → StepGiven v b call next → Callable call
callable (StepGiven.opened answer small promise) = small
callable (StepGiven.replaced edit promise) = tt
callable (StepGiven.pointed edit promise) = tt
callable (StepGiven.changed edit promise) = tt
callable (StepGiven.limited edit small promise) = small
callable (StepGiven.swept edit promise) = tt
callable (StepGiven.appended edit promise) = tt
callable (StepGiven.reported r promise) = tt
callable (StepGiven.stored r out promise) = tt

-- on a bench that stands for something, a step in one view is one in any other
pub step_otherwise : {v : View} (u : View) {b next : Bench} {call : Call} (p : Present) → Stands b p → StepGiven v b call next → StepGiven u b call next
step_otherwise u {b} {call} p k step =
    subst (λ (z : Bench). StepGiven u b call z) (sym (step_stands p k step).is) (step_exists u b p k call (callable step))

-- an accepted open is a step from any bench, whatever it holds
pub open_otherwise : {v : View} (u : View) {b next : Bench} (c : Bench) {bytes : List ℕ} {t : Brought} {l : Limits} → open_answer bytes t ≡ done
    → StepGiven v b (opening bytes t l) next → StepGiven u c (opening bytes t l) next
open_otherwise u {b} c {bytes} {t} {l} e (StepGiven.opened answer small promise) =
    let opens : (x : Bench) → bench_after_open (open_answer bytes t) (open_state bytes t l) x ≡ full_bench (open_state bytes t l) =
    λ x. ap (λ (a : Answer). bench_after_open a (open_state bytes t l) x) e in
    StepGiven.opened (u.answer (open_answer bytes t)) small (refl, promise.1 ∙ opens b ∙ sym (opens c))

-- ---- whatever is called

abbrev pub AllCallable : List Call → Type 0
AllCallable [] = Unit {0}
AllCallable (call ∷ calls) = Callable call × AllCallable calls

runs_from : (b : Bench) (p : Present) → Stands b p → (calls : List Call) → AllCallable calls → (last : Bench) × Runs b calls last
runs_from b p k [] u = (b, RunsBy.none)
runs_from b p k (call ∷ calls) u =
    let next = bench_of (after_call p call) in
    let step = step_exists as_they_are b p k call u.0 in
    let rest = runs_from next (after_call p call) (step_stands p k step) calls u.1 in
    (rest.0, RunsBy.more next step rest.1)

-- so whatever is called, with limits that can be held, there is a bench after it
pub runs_exist : (calls : List Call) → AllCallable calls → (b : Bench) × Runs empty_bench calls b
runs_exist calls u = runs_from empty_bench nothing empty_stands calls u

-- ---- what is present: that of the last accepted open, with the accepted edits since then applied in order

pub present_append : (p : Present) (calls more : List Call) → present_from p (calls ++ more) ≡ present_from (present_from p calls) more
present_append p [] more = refl
present_append p (call ∷ calls) more = present_append (after_call p call) calls more

-- an accepted open replaces everything, whatever was called before it
pub since_open : (calls since : List Call) (bytes : List ℕ) (t : Brought) (l : Limits) → open_answer bytes t ≡ done
    → present_after (calls ++ opening bytes t l ∷ since) ≡ present_from (present (open_state bytes t l)) since
since_open calls since bytes t l e =
    present_append nothing calls (opening bytes t l ∷ since)
    ∙ ap (λ (a : Answer). present_from (after a (open_state bytes t l) (present_from nothing calls)) since) e

-- ---- a first-time examination

-- what is present can be opened as it is, and is then present
pub opens : (s : State) → Sound s → open_answer (stored s.circuit) (as_brought s.target) ≡ done
unfolding open_answer
opens s ok =
    let c = s.circuit in
    let only = is_matrix s.target in
    let r = answer_stored only c ok.circuit in
    let f = ap (λ (x : Listing). brought_fits x.inputs (length x.outs) (as_brought s.target)) (listing-stored only c ok.circuit)
    ∙ brought-fits c.inputs (length c.outs) s.target ok.target in
    λ i. and_then (r i) (unless (f i) BadTarget done)

pub opens_as : (s : State) → Sound s → present_after (opening (stored s.circuit) (as_brought s.target) s.limits ∷ []) ≡ present s
opens_as s ok =
    let c = s.circuit in
    let e : open_state (stored c) (as_brought s.target) s.limits ≡ s =
    ap (λ (x : Listing). state x (target_in x.inputs (length x.outs) (as_brought s.target)) s.limits) (listing-stored (is_matrix s.target) c ok.circuit)
    ∙ ap (with_target s) (brought-back c.inputs (length c.outs) s.target ok.target) in
    λ i. after (opens s ok i) (e i) nothing

-- after any calls the bench is the one on which what is present was opened just now: no call leaves a trace but in what is present
pub as_opened_now : (s : State) {b fresh : Bench} {calls : List Call} → Runs empty_bench calls b → present_after calls ≡ present s
    → Runs empty_bench (opening (stored s.circuit) (as_brought s.target) s.limits ∷ []) fresh → b ≡ fresh
as_opened_now s run e now =
    let k = after-calls run in
    let ok : Sound s = subst SoundPresent e k.sound in
    k.is ∙ ap bench_of (e ∙ sym (opens_as s ok)) ∙ sym (after-calls now).is

-- ---- lines that a gate edit does not rework

-- what two benches hold for line i is the same
pub record SameLine (b next : Bench) (i : ℕ) : Type 0 where
  pub depth : get_or next.depths i 0 ≡ get_or b.depths i 0
  pub and_depth : get_or next.and_depths i 0 ≡ get_or b.and_depths i 0
  pub values : get_or next.values i no_words ≡ get_or b.values i no_words

module _ (c : Listing) (k : ℕ) (q : Gate) where
  agree : (j : ℕ) → (j ≡ k → ⊥) → gate_at c j ≡ gate_at (with_gate c k q) j
  agree j ne = sym (get_or-set_other c.gates k j q no_gate ne)

  held_same : {A : Type 0} (step : ℕ → Gate → List A → A) (d : A) (ins : List A) → length ins ≡ c.inputs
      → (i : ℕ) → get_or (readers_of c k) i false ≡ false
      → get_or (padded most_lines d (lines step d ins (gate_at (with_gate c k q)) (length (with_gate c k q).gates))) i d
      ≡ get_or (padded most_lines d (lines step d ins (gate_at c) (length c.gates))) i d
  held_same step d ins l i h =
      let g = length c.gates in
      let new = lines step d ins (gate_at (with_gate c k q)) in
      let old = lines step d ins (gate_at c) g in
      let u = subst (λ (n : ℕ). get_or (reached k n (gate_at c) g) i false ≡ false) (sym l) h in
      pad_read (new (length (with_gate c k q).gates)) (most_lines - length (new (length (with_gate c k q).gates))) i d
      ∙ ap (λ (x : ℕ). get_or (new x) i d) (length-set c.gates k q)
      ∙ sym (same_lines step d ins (gate_at (with_gate c k q)) (gate_at c) k agree g i u)
      ∙ sym (pad_read old (most_lines - length old) i d)

module _ (s : State) (ok : Sound s) (k : ℕ) where
  line_kept : (kind x y i : ℕ) → get_or (readers_of s.circuit k) i false ≡ false → SameLine (full_bench s) (full_bench (gate_edited s k kind x y)) i
  unfolding full_bench
  line_kept kind x y i h =
      let c = s.circuit in
      let n = c.inputs in
      let q = gate kind x y in
      let n_most = (circuit_fits (is_matrix s.target) c ok.circuit).shape.n_most in
      record {
        depth = held_same c k q depth_step 0 (replicate n 0) (length-replicate n 0) i h;
        and_depth = held_same c k q and_depth_step 0 (replicate n 0) (length-replicate n 0) i h;
        values = held_same c k q words_step no_words (take n input_words) (inputs-length n n_most) i h;
      }

  -- whatever the edit answers, what is held for a line that is not the gate's and does not read it, directly or through others, stays
  pub unreworked : (b next : Bench) (kind x y : ℕ) (edit : Edit) → Stands b (present s) → GatePromise b k kind x y edit next
      → (i : ℕ) → get_or (readers_of s.circuit k) i false ≡ false → SameLine b next i
  unreworked b next kind x y edit st promise i h =
      subst (λ (z : Bench). SameLine z next i) (sym st.is)
      (subst (λ (z : Bench). SameLine (full_bench s) z i) (sym (promise (present s) st).1) (by (gate_edit_answer (present s) k kind x y))) where
        by : (a : Answer) → SameLine (full_bench s) (bench_of (after a (gate_edited s k kind x y) (present s))) i
        by (Ok _) = line_kept kind x y i h
        by (Err w) = record { depth = refl; and_depth = refl; values = refl }

  -- ---- a gate replaced by itself

  abbrev own : Gate
  own = gate_at s.circuit k

  module _ (there : k < length s.circuit.gates) where
    -- it is accepted
    pub itself_accepted : gate_edit_answer (present s) k own.kind own.left own.right ≡ done
    unfolding gate_edit_answer
    itself_accepted =
        let only = is_matrix s.target in
        let t = lt-ltb k (length s.circuit.gates) there in
        let a = (circuit_fits only s.circuit ok.circuit).gates k there in
        λ i. unless (t i) NotThere (a i)

    -- it changes nothing
    pub itself_same : after_gate (present s) k own.kind own.left own.right ≡ present s
    itself_same =
        let e : gate_edited s k own.kind own.left own.right ≡ s =
        ap (λ (qs : List Gate). with_circuit s (with_gates s.circuit qs))
        (set-get_or s.circuit.gates k no_gate) in
        λ i. after (itself_accepted i) (e i) (present s)

    -- and it reworks the lines that any other accepted replacement of the gate reworks
    pub itself_reworks : (kind x y : ℕ) → gate_edit_answer (present s) k kind x y ≡ done
        → gate_edit (present s) k own.kind own.left own.right ≡ gate_edit (present s) k kind x y
    itself_reworks kind x y h = ap (λ (a : Answer). edit_by a (readers_of s.circuit k)) (itself_accepted ∙ sym h)

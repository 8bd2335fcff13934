-- What is typed at the desk: lines are calls, so that the third demand holds of the bench behind them and of the bytes that are written.
--
-- A `Session` (talk/proofs/Sessions) is what the program does with lines: for each a result that meets the promise of `answer_line` on the bench that the
-- line before left, its answer written, and the bench after the last. `calls_typed` (talk/specs/Talk) are the calls that they make since the last `new`.
use Rattle.std.specs.Prelude.{Option, Some, None, Result, Ok, Err}
use mathlib.Core.Path.{◌≡◌, refl, sym, ap, ◌∙◌, subst}
use mathlib.Core.List.{List, [], ◌∷◌, ◌++◌}
use Prim.Native.Nat.{ℕ, ◌+◌, ◌-◌}
use lib.ListN.{length, take, replicate}
use lib.Seq.{take-append_seam}
use Rattle.circuit.specs.Lines.{gate, with_more}
use Rattle.circuit.specs.Rules.{Answer, done}
use Rattle.stored.specs.Stored.{stored}
use Rattle.sweep.specs.Sweep.{swept}
use Rattle.distance.specs.declared.Refusal.{Refusal as QueryRefusal}
use Rattle.distance.specs.Query.{answer_of, lines_of, found}
use Rattle.builder.specs.Late.{late_built, late_answer}
use Rattle.drawing.specs.Drawing.{drawn_answer, drawn_bytes}
use Rattle.bench.specs.declared.Bench.{Bench}
use Rattle.bench.specs.declared.Reworked.{Reworked}
use Rattle.bench.specs.State.{State, Present, nothing, present}
use Rattle.bench.specs.Held.{empty_bench, bench_of, Stands}
use Rattle.bench.specs.Calls.{gate_edit_answer, after_gate, gate_edit, edit_by, reworking, readers_of, gate_lines, size_of, append_answer, append_edit, reported, GatePromise}
use Rattle.bench.specs.Run.{Call, present_after, Runs}
use Rattle.bench.proofs.Readers.{Lists}
use Rattle.bench.proofs.RunLaws.{after-calls}
use Rattle.bench.proofs.Unique.{one_present}
use Rattle.hint.specs.Hint.{hint_of}
use Rattle.script.specs.Order.{Order, ask_new, ask_report, ask_gate, ask_sweep, ask_append, ask_hint, ask_late, ask_distance, ask_equations}
use Rattle.script.specs.Reading.{order_in}
use Rattle.talk.specs.declared.Told.{Told}
use Rattle.talk.specs.Words.{built_name}
use Rattle.talk.specs.Texts.{edit_text, reworked_text, reported_text, written_text, drawn_text, gates_text, found_text, distance_text, hinted_text}
use Rattle.talk.specs.Talk.{Deed, calling, deed_of, present_by, present_after_lines, text_of, written, calls_typed, Answers}
use Rattle.talk.proofs.Sessions.{Session, session_from_empty, sessions_go_on}
use Rattle.talk.proofs.Typed as typed
use Rattle.claims.proofs.Tables.{call_no}
use Rattle.claims.proofs.ThirdDemand.{refused_nothing, lists_reworked}
use Rattle.claims.proofs.Sweeping.{EditLists, ListsFrom, sweep_lists, append_lists}

-- What is present after lines is what is present after the calls that they make,
pub typed_present : (lines : List (List ℕ)) → present_after_lines nothing lines ≡ present_after (calls_typed lines)
typed_present = typed.typed_present

-- and of what was typed before a `new` nothing is left.
pub new_forgets : (before : List (List ℕ)) (line : List ℕ) (since : List (List ℕ)) → order_in line ≡ ask_new → calls_typed (before ++ line ∷ since) ≡ calls_typed since
new_forgets = typed.since_new

-- Whatever is typed, a session can be held: none of this speaks of nothing.
pub typing_goes_on : (lines : List (List ℕ)) → (text : List ℕ) × ((b : Bench) × Session empty_bench lines text b)
typing_goes_on = sessions_go_on

-- a distance is written with the lines beside it
found_said : (a : Result (Option ℕ) QueryRefusal) (xs : List ℕ) → found_text (found a xs) ≡ distance_text a xs
found_said (Ok (Some g)) xs = ap (gates_text g) (take-append_seam xs (replicate (8 - length xs) 0))
found_said (Ok None) xs = refl
found_said (Err w) xs = refl

module _ {lines : List (List ℕ)} {text : List ℕ} {b : Bench} (session : Session empty_bench lines text b) where
  -- what is present now
  abbrev now : Present
  now = present_after (calls_typed lines)

  -- The bench after the lines is one that their calls yield. So each theorem of ThirdDemand holds of it.
  pub typed_is_called : Runs empty_bench (calls_typed lines) b
  typed_is_called = typed.session_runs session

  -- What was written is each line's answer to what was present when it was typed, one after the other.
  pub all-written : text ≡ written nothing lines
  all-written = (session_from_empty session).0

  stands : Stands b now
  stands = after-calls typed_is_called

  -- ---- One line more.
  module _ (line out after : List ℕ) (r : Told) (answer : Answers b (order_in line) out after r) where
    -- what is written for it
    abbrev bytes : List ℕ
    bytes = take r.len after

    says : (o : Order) → order_in line ≡ o → bytes ≡ text_of now o
    says o e = answer.text now stands ∙ ap (text_of now) e

    leaves : (d : Deed) → deed_of (order_in line) ≡ d → r.bench ≡ bench_of (present_by now d)
    leaves d e = answer.bench now stands ∙ ap (λ (x : Deed). bench_of (present_by now x)) e

    -- `report` writes the report of a first-time examination of what is present.
    pub report_writes : order_in line ≡ ask_report → bytes ≡ reported_text (reported now)
    report_writes e = says ask_report e

    -- An accepted `gate` writes how many lines were reworked, and which: the line of that gate and every line that reads it, directly or through
    -- others, and no more, in ascending order.
    pub gate_writes : (s : State) → now ≡ present s → (k kind x y : ℕ) → order_in line ≡ ask_gate k kind x y → gate_edit_answer (present s) k kind x y ≡ done
        → (r : Reworked) × ((bytes ≡ reworked_text r.count r.lines) × (Lists s.circuit k r.lines r.count × (r.count ≡ size_of (readers_of s.circuit k))))
    gate_writes s here k kind x y e d =
        let edit = gate_edit (present s) k kind x y in
        let given : edit ≡ Ok (reworking (readers_of s.circuit k)) = ap (λ (a : Answer). edit_by a (readers_of s.circuit k)) d in
        let same : (q : Present) → Stands b q → present s ≡ q = λ q l. sym here ∙ one_present b now q stands l in
        let next = bench_of (after_gate (present s) k kind x y) in
        let promise : GatePromise b k kind x y edit next =
        λ q l. (ap (λ (p : Present). gate_edit p k kind x y) (same q l), ap (λ (p : Present). bench_of (after_gate p k kind x y)) (same q l)) in (
          reworking (readers_of s.circuit k),
          (
            says (ask_gate k kind x y) e ∙ ap (λ (p : Present). text_of p (ask_gate k kind x y)) here ∙ ap edit_text given,
            lists_reworked typed_is_called s here k kind x y edit next promise (reworking (readers_of s.circuit k)) given,
          ),
        )

    -- `sweep` writes how many gates are kept, and their new lines;
    pub sweep_writes : (s : State) → now ≡ present s → order_in line ≡ ask_sweep
        → (r : Reworked) × ((bytes ≡ reworked_text r.count r.lines) × ListsFrom s.circuit.inputs (length (swept s.circuit).gates) r.lines r.count)
    sweep_writes s here e = (reworking (gate_lines (swept s.circuit)), (says ask_sweep e ∙ ap (λ (p : Present). text_of p ask_sweep) here, sweep_lists s))

    -- an accepted `append` writes its one new line.
    pub append_writes : (s : State) → now ≡ present s → (kind x y : ℕ) → order_in line ≡ ask_append kind x y → append_answer (present s) kind x y ≡ done
        → (r : Reworked) × ((bytes ≡ reworked_text r.count r.lines) × ListsFrom (s.circuit.inputs + length s.circuit.gates) 1 r.lines r.count)
    append_writes s here kind x y e d =
        let marks = readers_of (with_more s.circuit (gate kind x y)) (length s.circuit.gates) in
        let given : append_edit (present s) kind x y ≡ Ok (reworking marks) = ap (λ (a : Answer). edit_by a marks) d in (
          reworking marks,
          (
            says (ask_append kind x y) e ∙ ap (λ (p : Present). text_of p (ask_append kind x y)) here ∙ ap edit_text given,
            subst (EditLists (s.circuit.inputs + length s.circuit.gates) 1) given (append_lists s kind x y d),
          ),
        )

    -- A line whose call is refused leaves the bench as it was,
    pub refused_leaves : (call : Call) → deed_of (order_in line) ≡ calling (call ∷ []) → (call_no now call ≡ 0 → ⊥) → r.bench ≡ b
    refused_leaves call e bad = leaves (calling (call ∷ [])) e ∙ ap bench_of (refused_nothing now call bad) ∙ sym stands.is

    -- and so does a line that makes no call: one that is not readable, a remark, and one that only looks.
    pub no_call_leaves : deed_of (order_in line) ≡ calling [] → r.bench ≡ b
    no_call_leaves e = leaves (calling []) e ∙ sym stands.is

    -- `late` writes the stored program of a build with late signals, or the refusal, and leaves the bench.
    pub late_line_writes : (n : ℕ) (ar ts ds : List ℕ) (room : ℕ) → order_in line ≡ ask_late n ar ts ds room
        → (bytes ≡ written_text built_name (late_answer n ar ts ds room) (stored (late_built n ar ts ds))) × (r.bench ≡ b)
    late_line_writes n ar ts ds room e = (says (ask_late n ar ts ds room) e, no_call_leaves (ap deed_of e))

    -- `equations` writes the stored circuit of the file, or the refusal with its place, and leaves the bench.
    pub equations_writes : (file : List ℕ) (room : ℕ) → order_in line ≡ ask_equations file room → (bytes ≡ drawn_text (drawn_answer file room) (drawn_bytes file)) × (r.bench ≡ b)
    equations_writes file room e = (says (ask_equations file room) e, no_call_leaves (ap deed_of e))

    -- `distance` writes the distance and the lines of its set, in ascending order, or the refusal, and leaves the bench;
    pub distance_writes : (n : ℕ) (ms ds : List ℕ) (t D : ℕ) → order_in line ≡ ask_distance n ms ds t D
        → (bytes ≡ distance_text (answer_of n ms ds t D) (lines_of n ms ds t D)) × (r.bench ≡ b)
    distance_writes n ms ds t D e = (says (ask_distance n ms ds t D) e ∙ found_said (answer_of n ms ds t D) (lines_of n ms ds t D), no_call_leaves (ap deed_of e))

    -- and so does `hint`, of what is present.
    pub hint_writes : (j D : ℕ) → order_in line ≡ ask_hint j D → (bytes ≡ hinted_text (hint_of now j D)) × (r.bench ≡ b)
    hint_writes j D e = (says (ask_hint j D) e, no_call_leaves (ap deed_of e))

-- The calls as functions on what is present: what each answers, what is present after it, and what the code promises of it.
use Rattle.std.specs.Prelude.{◌≡◌, Result, Ok, Err, Bool, true, false, cond, ◌&&◌, List, [], ◌∷◌, ◌++◌, ℕ, suc, ◌+◌, ◌^◌, ltb, eqb, length, set, replicate}
use Rattle.circuit.specs.declared.Refusal.{Refusal}
use Rattle.circuit.specs.declared.Refusal.TheVariants.{Target as BadTarget, NotThere, NothingOpen, Full}
use Rattle.circuit.specs.Lines.{Listing, gate_at, reached, padded, gate, with_gate, with_more, with_outs}
use Rattle.circuit.specs.Rows.{row}
use Rattle.circuit.specs.Rules.{Answer, done, unless, and_then, gate_answer, out_answer}
use Rattle.circuit.specs.Sizes.{most_gates, most_lines}
use Rattle.stored.specs.Stored.{stored, listing_in}
use Rattle.stored.specs.Reading.{reading_answer}
use Rattle.stored.specs.Writing.{Writing, into_room, room_after}
use Rattle.sweep.specs.Sweep.{swept}
use Rattle.targets.specs.Target.{Target, matrix, table, is_matrix, row_is_sound, entry_fits, Brought, target_in, brought_fits}
use Rattle.bench.specs.declared.Bench.{Bench}
use Rattle.bench.specs.declared.Reworked.{Reworked}
use Rattle.bench.specs.declared.Report.{Report}
use Rattle.bench.specs.State.{Limits, State, state, with_circuit, with_target, with_limits, Present, nothing, present, report_of}
use Rattle.bench.specs.Held.{bench_of, Stands}

-- what is present after a call that gives the state s: a refused call leaves what was present
abbrev pub after : Answer → State → Present → Present
after (Ok _) s p = present s
after (Err w) s p = p

-- ---- open

-- the refusals of an open: as the reader, then the target (8)
unfoldable pub open_answer : List ℕ → Brought → Answer
open_answer bytes t =
    let c = listing_in bytes in
    and_then (reading_answer t.of_matrix bytes) (unless (brought_fits c.inputs (length c.outs) t) BadTarget done)

-- the state that an open brings
abbrev pub open_state : List ℕ → Brought → Limits → State
open_state bytes t l = let c = listing_in bytes in state c (target_in c.inputs (length c.outs) t) l

-- what is present after an open: a new open replaces everything, a refused one keeps what was there
abbrev pub after_open : Present → List ℕ → Brought → Limits → Present
after_open p bytes t l = after (open_answer bytes t) (open_state bytes t l) p

-- ---- edits

-- replacing gate k: nothing open (13), no such gate (12), then kind (4), operands (5), linear only (7)
unfoldable pub gate_edit_answer : Present → ℕ → ℕ → ℕ → ℕ → Answer
gate_edit_answer nothing k kind a b = Err NothingOpen
gate_edit_answer (present s) k kind a b =
    unless (ltb k (length s.circuit.gates)) NotThere (gate_answer (is_matrix s.target) (s.circuit.inputs + k) (gate kind a b))

-- the state with gate k replaced
abbrev pub gate_edited : State → ℕ → ℕ → ℕ → ℕ → State
gate_edited s k kind a b = with_circuit s (with_gate s.circuit k (gate kind a b))

-- what is present after replacing a gate
abbrev pub after_gate : Present → ℕ → ℕ → ℕ → ℕ → Present
after_gate nothing k kind a b = nothing
after_gate (present s) k kind a b = after (gate_edit_answer (present s) k kind a b) (gate_edited s k kind a b) (present s)

-- pointing output j at a line: nothing open (13), no such output (12), no such line (6)
unfoldable pub output_edit_answer : Present → ℕ → ℕ → Answer
output_edit_answer nothing j line = Err NothingOpen
output_edit_answer (present s) j line =
    unless (ltb j (length s.circuit.outs)) NotThere (out_answer (s.circuit.inputs + length s.circuit.gates) line)

-- the state with output j pointed at a line
abbrev pub output_edited : State → ℕ → ℕ → State
output_edited s j line = with_circuit s (with_outs s.circuit (set s.circuit.outs j line))

-- what is present after pointing an output
abbrev pub after_output : Present → ℕ → ℕ → Present
after_output nothing j line = nothing
after_output (present s) j line = after (output_edit_answer (present s) j line) (output_edited s j line) (present s)

-- changing entry i of the target: no such row or entry (12), then its rule (8); beside a table's entry the constant is 0
abbrev pub entry_answer : Listing → Target → ℕ → ℕ → ℕ → Answer
entry_answer c (matrix rows) i value constant = unless (ltb i (length c.outs)) NotThere (unless (row_is_sound c.inputs (row value constant)) BadTarget done)
entry_answer c (table entries) i value constant =
    unless (ltb i (2 ^ c.inputs)) NotThere (unless (entry_fits (length c.outs) value && eqb constant 0) BadTarget done)

-- changing entry i: nothing open (13), then as above
unfoldable pub entry_edit_answer : Present → ℕ → ℕ → ℕ → Answer
entry_edit_answer nothing i value constant = Err NothingOpen
entry_edit_answer (present s) i value constant = entry_answer s.circuit s.target i value constant

-- the target with entry i changed: mask and constant of a row together
abbrev pub with_entry : Target → ℕ → ℕ → ℕ → Target
with_entry (matrix rows) i value constant = matrix (set rows i (row value constant))
with_entry (table entries) i value constant = table (set entries i value)

-- the state with entry i changed
abbrev pub entry_edited : State → ℕ → ℕ → ℕ → State
entry_edited s i value constant = with_target s (with_entry s.target i value constant)

-- what is present after changing an entry
abbrev pub after_entry : Present → ℕ → ℕ → ℕ → Present
after_entry nothing i value constant = nothing
after_entry (present s) i value constant = after (entry_edit_answer (present s) i value constant) (entry_edited s i value constant) (present s)

-- setting the limits: nothing open (13)
abbrev pub limits_answer : Present → Answer
limits_answer nothing = Err NothingOpen
limits_answer (present s) = done

-- what is present after setting the limits
abbrev pub after_limits : Present → Limits → Present
after_limits nothing l = nothing
after_limits (present s) l = present (with_limits s l)

-- what is present after a sweep: its circuit is swept; target and limits stay
abbrev pub after_sweep : Present → Present
after_sweep nothing = nothing
after_sweep (present s) = present (with_circuit s (swept s.circuit))

-- the most gates that a circuit may have under a target
abbrev pub most_gates_for : Listing → Target → ℕ
most_gates_for c t = most_gates

-- appending a gate: nothing open (13), as many gates there as there may be (18), then kind (4), operands (5), linear only (7)
unfoldable pub append_answer : Present → ℕ → ℕ → ℕ → Answer
append_answer nothing kind a b = Err NothingOpen
append_answer (present s) kind a b =
    let c = s.circuit in
    let g = length c.gates in
    unless (ltb g (most_gates_for c s.target)) Full (gate_answer (is_matrix s.target) (c.inputs + g) (gate kind a b))

-- the state with one gate more
abbrev pub appended : State → ℕ → ℕ → ℕ → State
appended s kind a b = with_circuit s (with_more s.circuit (gate kind a b))

-- what is present after appending a gate
abbrev pub after_append : Present → ℕ → ℕ → ℕ → Present
after_append nothing kind a b = nothing
after_append (present s) kind a b = after (append_answer (present s) kind a b) (appended s kind a b) (present s)

-- ---- what an edit answers

-- the numbers, from i on, of the places that are marked, in ascending order
unfoldable pub places_from : ℕ → List Bool → List ℕ
places_from i [] = []
places_from i (x ∷ xs) = let r = places_from (suc i) xs in cond x (i ∷ r) r

-- how many places are marked: the size of the set
unfoldable pub size_of : List Bool → ℕ
size_of [] = 0
size_of (x ∷ xs) = let r = size_of xs in cond x (suc r) r

-- the set of lines that replacing gate k reworks: its own line, and each that reads it, directly or through others
abbrev pub readers_of : Listing → ℕ → List Bool
readers_of c k = reached k c.inputs (gate_at c) (length c.gates)

-- what an edit answers: the lines that it reworked, or why it is refused
abbrev pub Edit : Type 0
Edit = Result Reworked Refusal

-- a set of lines, as it is answered
abbrev pub reworking : List Bool → Reworked
reworking marks = record { lines = padded most_lines 0 (places_from 0 marks); count = size_of marks }

-- no line
abbrev pub no_lines : Reworked
no_lines = record { lines = replicate most_lines 0; count = 0 }

-- an edit's answer: the set where it is accepted
abbrev pub edit_by : Answer → List Bool → Edit
edit_by a marks = and_then a (Ok (reworking marks))

-- the answer of an edit that reworks no line
abbrev pub no_rework : Answer → Edit
no_rework a = and_then a (Ok no_lines)

-- the lines that an answer lists: none where the edit is refused
abbrev pub listed_in : Edit → Reworked
listed_in (Ok r) = r
listed_in (Err w) = no_lines

-- what replacing a gate answers
abbrev pub gate_edit : Present → ℕ → ℕ → ℕ → ℕ → Edit
gate_edit nothing k kind a b = Err NothingOpen
gate_edit (present s) k kind a b = edit_by (gate_edit_answer (present s) k kind a b) (readers_of s.circuit k)

-- the set of the lines of a circuit's gates
abbrev pub gate_lines : Listing → List Bool
gate_lines c = replicate c.inputs false ++ replicate (length c.gates) true

-- what a sweep answers: nothing open (13), or the line of each gate that it keeps, renumbered
abbrev pub sweep_edit : Present → Edit
sweep_edit nothing = Err NothingOpen
sweep_edit (present s) = Ok (reworking (gate_lines (swept s.circuit)))

-- what appending a gate answers: as for a replaced gate, its own line and each that reads it, and no gate reads it yet
abbrev pub append_edit : Present → ℕ → ℕ → ℕ → Edit
append_edit nothing kind a b = Err NothingOpen
append_edit (present s) kind a b =
    edit_by (append_answer (present s) kind a b) (readers_of (with_more s.circuit (gate kind a b)) (length s.circuit.gates))

-- ---- report and store

-- what a report answers
abbrev pub reported : Present → Result Report Refusal
reported nothing = Err NothingOpen
reported (present s) = Ok (report_of s)

-- what storing answers, for a room so long: nothing open (13), room too short (11)
unfoldable pub store_answer : Present → ℕ → Writing
store_answer nothing room = Err NothingOpen
store_answer (present s) room = into_room done (length (stored s.circuit)) room

-- the bytes that are stored
abbrev pub stored_of : Present → List ℕ
stored_of nothing = []
stored_of (present s) = stored s.circuit

-- ---- what the functions promise: an open on any bench, the others on a bench that stands for p

-- how answers are given: as they are, or as numbers for other languages
pub record View : Type 1 where
  pub Answers : Type 0
  pub Edits : Type 0
  pub Reports : Type 0
  pub Writings : Type 0
  pub answer : Answer → Answers
  pub edit : Edit → Edits
  pub report : Result Report Refusal → Reports
  pub writing : Writing → Writings

-- each answer as it is
abbrev pub as_they_are : View
as_they_are =
    record {
      Answers = Answer;
      Edits = Edit;
      Reports = Result Report Refusal;
      Writings = Writing;
      answer = λ a. a;
      edit = λ e. e;
      report = λ r. r;
      writing = λ w. w;
    }

-- the bench after an open that brings the state s: the one of that state, or after a refusal the bench as it was, whatever it held
abbrev pub bench_after_open : Answer → State → Bench → Bench
bench_after_open (Ok _) s b = bench_of (present s)
bench_after_open (Err w) s b = b

-- of an open: its answer, and the bench after it
abbrev pub OpenGiven : (v : View) → Bench → List ℕ → Brought → Limits → v.Answers → Bench → Type 0
OpenGiven v b bytes t l r next = (r ≡ v.answer (open_answer bytes t)) × (next ≡ bench_after_open (open_answer bytes t) (open_state bytes t l) b)

-- of replacing a gate
abbrev pub GateGiven : (v : View) → Bench → ℕ → ℕ → ℕ → ℕ → v.Edits → Bench → Type 0
GateGiven v b k kind x y r next = (p : Present) → Stands b p → (r ≡ v.edit (gate_edit p k kind x y)) × (next ≡ bench_of (after_gate p k kind x y))

-- of pointing an output
abbrev pub OutputGiven : (v : View) → Bench → ℕ → ℕ → v.Edits → Bench → Type 0
OutputGiven v b j line r next = (p : Present) → Stands b p → (r ≡ v.edit (no_rework (output_edit_answer p j line))) × (next ≡ bench_of (after_output p j line))

-- of changing an entry
abbrev pub EntryGiven : (v : View) → Bench → ℕ → ℕ → ℕ → v.Edits → Bench → Type 0
EntryGiven v b i value constant r next =
    (p : Present) → Stands b p → (r ≡ v.edit (no_rework (entry_edit_answer p i value constant))) × (next ≡ bench_of (after_entry p i value constant))

-- of setting the limits
abbrev pub LimitsGiven : (v : View) → Bench → Limits → v.Edits → Bench → Type 0
LimitsGiven v b l r next = (p : Present) → Stands b p → (r ≡ v.edit (no_rework (limits_answer p))) × (next ≡ bench_of (after_limits p l))

-- of a sweep
abbrev pub SweepGiven : (v : View) → Bench → v.Edits → Bench → Type 0
SweepGiven v b r next = (p : Present) → Stands b p → (r ≡ v.edit (sweep_edit p)) × (next ≡ bench_of (after_sweep p))

-- of appending a gate
abbrev pub AppendGiven : (v : View) → Bench → ℕ → ℕ → ℕ → v.Edits → Bench → Type 0
AppendGiven v b kind x y r next = (p : Present) → Stands b p → (r ≡ v.edit (append_edit p kind x y)) × (next ≡ bench_of (after_append p kind x y))

-- of a report
abbrev pub ReportGiven : (v : View) → Bench → v.Reports → Type 0
ReportGiven v b r = (p : Present) → Stands b p → r ≡ v.report (reported p)

-- of storing: its answer, and each byte of the room
abbrev pub StoreGiven : (v : View) → Bench → List ℕ → v.Writings → List ℕ → Type 0
StoreGiven v b room r out =
    (p : Present) → Stands b p → (r ≡ v.writing (store_answer p (length room))) × (out ≡ room_after (store_answer p (length room)) (stored_of p) room)

-- ---- the same with each answer as it is: what the functions by value promise, and those on a lent bench

-- of an open
abbrev pub OpenPromise : Bench → List ℕ → Brought → Limits → Answer → Bench → Type 0
OpenPromise = OpenGiven as_they_are

-- of replacing a gate
abbrev pub GatePromise : Bench → ℕ → ℕ → ℕ → ℕ → Edit → Bench → Type 0
GatePromise = GateGiven as_they_are

-- of pointing an output
abbrev pub OutputPromise : Bench → ℕ → ℕ → Edit → Bench → Type 0
OutputPromise = OutputGiven as_they_are

-- of changing an entry
abbrev pub EntryPromise : Bench → ℕ → ℕ → ℕ → Edit → Bench → Type 0
EntryPromise = EntryGiven as_they_are

-- of setting the limits
abbrev pub LimitsPromise : Bench → Limits → Edit → Bench → Type 0
LimitsPromise = LimitsGiven as_they_are

-- of a sweep
abbrev pub SweepPromise : Bench → Edit → Bench → Type 0
SweepPromise = SweepGiven as_they_are

-- of appending a gate
abbrev pub AppendPromise : Bench → ℕ → ℕ → ℕ → Edit → Bench → Type 0
AppendPromise = AppendGiven as_they_are

-- of a report
abbrev pub ReportPromise : Bench → Result Report Refusal → Type 0
ReportPromise = ReportGiven as_they_are

-- of storing
abbrev pub StorePromise : Bench → List ℕ → Writing → List ℕ → Type 0
StorePromise = StoreGiven as_they_are

-- Demand 3 where answers are numbers, as other languages are given them: each is the theorem by value, of the answer that the numbers stand for.
use Rattle.std.specs.Prelude.{Ok, Err}
use mathlib.Core.Path.{◌≡◌, refl, sym, ap, ◌∙◌, subst}
use mathlib.Core.List.{List, ◌∷◌}
use Prim.Native.Nat.{ℕ, ◌+◌, ◌/◌}
use lib.ListN.{length, replicate}
use Rattle.circuit.specs.Rules.{done, answer_no}
use Rattle.circuit.specs.Sizes.{most_lines}
use Rattle.sweep.specs.Sweep.{swept}
use Rattle.targets.specs.Target.{Brought}
use Rattle.bench.specs.declared.Bench.{Bench}
use Rattle.bench.specs.State.{Limits, State, Present, nothing, present}
use Rattle.bench.specs.Held.{empty_bench, bench_of, Stands}
use Rattle.bench.specs.Calls.{Edit, listed_in, open_answer, gate_edit, after_gate, readers_of, size_of, no_rework, output_edit_answer, after_output, entry_edit_answer, after_entry, limits_answer, after_limits, sweep_edit, after_sweep, append_edit, after_append, reported}
use Rattle.bench.specs.Run.{Call, present_after, StepGiven, Runs}
use Rattle.bench.specs.Run.Call.{opening}
use Rattle.bench.proofs.Readers.{Affected, Lists}
use Rattle.bench.proofs.RunLaws.{SameLine, after-calls, empty_stands, met}
use Rattle.coded.specs.declared.EditNumbers.{EditNumbers}
use Rattle.coded.specs.declared.ReportNumbers.{ReportNumbers}
use Rattle.coded.specs.Coded.{edit_code, reported_code, GateCode, OutputCode, EntryCode, LimitsCode, SweepCode, AppendCode, ReportCodePromise, NumberStep, MixedRuns}
use Rattle.coded.proofs.Mixing.{mixed_runs, mixed_anywhere}
use Rattle.claims.proofs.FirstDemand as first
use Rattle.claims.proofs.ThirdDemand as third
use Rattle.claims.proofs.ThirdDemand.{NoneReworked}
use Rattle.claims.proofs.Sweeping as sweep
use Rattle.claims.proofs.Sweeping.{ListsFrom}

-- A sequence of calls, each with its answer as it is or as numbers, is one of calls by value: every theorem of ThirdDemand holds of it.
pub a_run : {b : Bench} {calls : List Call} → MixedRuns empty_bench calls b → Runs empty_bench calls b
a_run = mixed_runs nothing empty_stands

-- It may begin on any bench, whatever that holds, with an accepted opening.
pub a_run_from_any_bench : {b last : Bench} {bytes : List ℕ} {t : Brought} {l : Limits} {calls : List Call} → open_answer bytes t ≡ done
    → MixedRuns b (opening bytes t l ∷ calls) last → Runs empty_bench (opening bytes t l ∷ calls) last
a_run_from_any_bench = mixed_anywhere

-- the refusal's number in what a call gives; 0 where it is accepted
abbrev pub refusal_in : {b next : Bench} {call : Call} → NumberStep b call next → ℕ
refusal_in (StepGiven.opened number small promise) = number
refusal_in (StepGiven.replaced edit promise) = edit.refusal
refusal_in (StepGiven.pointed edit promise) = edit.refusal
refusal_in (StepGiven.changed edit promise) = edit.refusal
refusal_in (StepGiven.limited edit small promise) = edit.refusal
refusal_in (StepGiven.swept edit promise) = edit.refusal
refusal_in (StepGiven.appended edit promise) = edit.refusal
refusal_in (StepGiven.reported r promise) = r.refusal
refusal_in (StepGiven.stored number out promise) = number / 65536

-- an edit whose number is 0 is accepted, with the lines that it lists
accepted : (e : Edit) → answer_no e ≡ 0 → e ≡ Ok (listed_in e)
accepted (Ok r) z = refl
accepted (Err w) z = absurd (first.not-zero w z)

-- no lines stand in an edit's numbers
abbrev pub ListsNone : EditNumbers → Type 0
ListsNone edit = (edit.count ≡ 0) × (edit.lines ≡ replicate most_lines 0)

-- of a call that is an edit, that no lines stand in its numbers
abbrev pub EditListsNone : {b next : Bench} {call : Call} → NumberStep b call next → Type 0
EditListsNone (StepGiven.opened number small promise) = Unit {0}
EditListsNone (StepGiven.replaced edit promise) = ListsNone edit
EditListsNone (StepGiven.pointed edit promise) = ListsNone edit
EditListsNone (StepGiven.changed edit promise) = ListsNone edit
EditListsNone (StepGiven.limited edit small promise) = ListsNone edit
EditListsNone (StepGiven.swept edit promise) = ListsNone edit
EditListsNone (StepGiven.appended edit promise) = ListsNone edit
EditListsNone (StepGiven.reported r promise) = Unit {0}
EditListsNone (StepGiven.stored number out promise) = Unit {0}

none_beside : (e : Edit) → (answer_no e ≡ 0 → ⊥) → ListsNone (edit_code e)
none_beside (Ok r) some = absurd (some refl)
none_beside (Err w) some = (refl, refl)

module _ {b : Bench} {calls : List Call} (run : Runs empty_bench calls b) where
  -- A refused call changes nothing: the bench is as it was; the room of a store too (`store_numbered` in FirstDemand).
  pub refused_nothing : {call : Call} {next : Bench} (step : NumberStep b call next) → (refusal_in step ≡ 0 → ⊥) → next ≡ b
  refused_nothing {next} (StepGiven.opened {bytes} {t} {l} number small promise) some = (first.open_numbered b bytes t l next number promise).1 some
  refused_nothing {next} (StepGiven.replaced {k} {kind} {x} {y} edit promise) some = (first.replace_numbered run k kind x y edit next promise).1 some
  refused_nothing {next} (StepGiven.pointed {j} {line} edit promise) some = (first.point_numbered run j line edit next promise).1 some
  refused_nothing {next} (StepGiven.changed {i} {value} {constant} edit promise) some = (first.change_numbered run i value constant edit next promise).1 some
  refused_nothing {next} (StepGiven.limited {l} edit small promise) some = (first.limits-numbered run l edit next promise).1 some
  refused_nothing {next} (StepGiven.swept edit promise) some = (first.sweep_numbered run edit next promise).1 some
  refused_nothing {next} (StepGiven.appended {kind} {x} {y} edit promise) some = (first.append-numbered run kind x y edit next promise).1 some
  refused_nothing (StepGiven.reported r promise) some = refl
  refused_nothing (StepGiven.stored number out promise) some = refl

  -- the numbers of the definition's answer X, where it is refused
  bare : (X : Present → Edit) (N : Present → Present) (edit : EditNumbers) (next : Bench) → ((p : Present) → Stands b p → (edit ≡ edit_code (X p)) × (next ≡ bench_of (N p)))
      → (edit.refusal ≡ 0 → ⊥) → ListsNone edit
  bare X N edit next h some =
      let now = present_after calls in
      let is = (h now (after-calls run)).0 in
      subst ListsNone (sym is) (none_beside (X now) (λ z. some (ap (λ (e : EditNumbers). e.refusal) is ∙ z)))

  -- A refused edit lists no lines.
  pub refused_lists_none : {call : Call} {next : Bench} (step : NumberStep b call next) → (refusal_in step ≡ 0 → ⊥) → EditListsNone step
  refused_lists_none (StepGiven.opened number small promise) some = tt
  refused_lists_none {next} (StepGiven.replaced {k} {kind} {x} {y} edit promise) some =
      bare (λ p. gate_edit p k kind x y) (λ p. after_gate p k kind x y) edit next promise some
  refused_lists_none {next} (StepGiven.pointed {j} {line} edit promise) some =
      bare (λ p. no_rework (output_edit_answer p j line)) (λ p. after_output p j line) edit next promise some
  refused_lists_none {next} (StepGiven.changed {i} {value} {constant} edit promise) some =
      bare (λ p. no_rework (entry_edit_answer p i value constant)) (λ p. after_entry p i value constant) edit next promise some
  refused_lists_none {next} (StepGiven.limited {l} edit small promise) some = bare (λ p. no_rework (limits_answer p)) (λ p. after_limits p l) edit next promise some
  refused_lists_none {next} (StepGiven.swept edit promise) some = bare sweep_edit after_sweep edit next promise some
  refused_lists_none {next} (StepGiven.appended {kind} {x} {y} edit promise) some = bare (λ p. append_edit p kind x y) (λ p. after_append p kind x y) edit next promise some
  refused_lists_none (StepGiven.reported r promise) some = tt
  refused_lists_none (StepGiven.stored number out promise) some = tt

  -- The report's numbers are those of a first-time examination of what is present.
  pub report_is_first_time : (r : ReportNumbers) → ReportCodePromise b r → r ≡ reported_code (reported (present_after calls))
  report_is_first_time r h = h (present_after calls) (after-calls run)

  module _ (s : State) (here : present_after calls ≡ present s) where
    stands : Stands b (present s)
    stands = subst (λ (p : Present). Stands b p) here (after-calls run)

    -- the definition's answer X meets the promise by value, with the same bench
    by_value : (X : Present → Edit) (N : Present → Present) (edit : EditNumbers) (next : Bench)
        → ((p : Present) → Stands b p → (edit ≡ edit_code (X p)) × (next ≡ bench_of (N p))) → (p : Present) → Stands b p → (X (present s) ≡ X p) × (next ≡ bench_of (N p))
    by_value X N edit next h = met b (present s) stands _ (refl, (h (present s) stands).1)

    -- An accepted gate edit's numbers list the gate's line and its readers, each once, in ascending order, and how many: the size of the readers' set.
    pub lists_reworked : (k kind x y : ℕ) (edit : EditNumbers) (next : Bench) → GateCode b k kind x y edit next → edit.refusal ≡ 0
        → Lists s.circuit k edit.lines edit.count × (edit.count ≡ size_of (readers_of s.circuit k))
    lists_reworked k kind x y edit next h e =
        let X : Present → Edit = λ p. gate_edit p k kind x y in
        let is = (h (present s) stands).0 in
        let same = by_value X (λ (p : Present). after_gate p k kind x y) edit next h in
        subst (λ (z : EditNumbers). Lists s.circuit k z.lines z.count × (z.count ≡ size_of (readers_of s.circuit k))) (sym is)
        (third.lists_reworked run s here k kind x y (X (present s)) next same (listed_in (X (present s)))
        (accepted (X (present s)) (sym (ap (λ (z : EditNumbers). z.refusal) is) ∙ e)))

    -- What is held for all other lines is unchanged.
    pub others_unchanged : (k kind x y : ℕ) (edit : EditNumbers) (next : Bench) → GateCode b k kind x y edit next
        → (i : ℕ) → (Affected s.circuit k i → ⊥) → SameLine b next i
    others_unchanged k kind x y edit next h =
        let X : Present → Edit = λ p. gate_edit p k kind x y in
        third.others_unchanged run s here k kind x y (X (present s)) next (by_value X (λ (p : Present). after_gate p k kind x y) edit next h)

    -- A sweep's numbers list the new line of each gate that it keeps, and those of an accepted append its one new line; what is held for other lines is unchanged.
    pub sweep_listed : (edit : EditNumbers) (next : Bench) → SweepCode b edit next
        → ListsFrom s.circuit.inputs (length (swept s.circuit).gates) edit.lines edit.count
    sweep_listed edit next h =
        subst (λ (z : EditNumbers). ListsFrom s.circuit.inputs (length (swept s.circuit).gates) z.lines z.count) (sym (h (present s) stands).0)
        (sweep.sweep_listed run s here (sweep_edit (present s)) next (by_value sweep_edit after_sweep edit next h))

    pub append-listed : (kind x y : ℕ) (edit : EditNumbers) (next : Bench) → AppendCode b kind x y edit next → edit.refusal ≡ 0
        → ListsFrom (s.circuit.inputs + length s.circuit.gates) 1 edit.lines edit.count
    append-listed kind x y edit next h e =
        let X : Present → Edit = λ p. append_edit p kind x y in
        let is = (h (present s) stands).0 in
        subst (λ (z : EditNumbers). ListsFrom (s.circuit.inputs + length s.circuit.gates) 1 z.lines z.count) (sym is)
        (sweep.append-listed run s here kind x y (X (present s)) next (by_value X (λ (p : Present). after_append p kind x y) edit next h)
        (listed_in (X (present s))) (accepted (X (present s)) (sym (ap (λ (z : EditNumbers). z.refusal) is) ∙ e)))

    pub append_unchanged : (kind x y : ℕ) (edit : EditNumbers) (next : Bench) → AppendCode b kind x y edit next
        → (i : ℕ) → (i ≡ s.circuit.inputs + length s.circuit.gates → ⊥) → SameLine b next i
    append_unchanged kind x y edit next h =
        let X : Present → Edit = λ p. append_edit p kind x y in
        sweep.append_unchanged run s here kind x y (X (present s)) next (by_value X (λ (p : Present). after_append p kind x y) edit next h)

    -- Other edits list none, and what is held for each line is unchanged.
    none-listed : (X : Present → Edit) (N : Present → Present) (edit : EditNumbers) (next : Bench)
        → ((p : Present) → Stands b p → (edit ≡ edit_code (X p)) × (next ≡ bench_of (N p))) → NoneReworked b (listed_in (X (present s))).count next → NoneReworked b edit.count next
    none-listed X N edit next h none = (ap (λ (z : EditNumbers). z.count) (h (present s) stands).0 ∙ none.0, none.1)

    pub pointing_reworks_none : (j line : ℕ) (edit : EditNumbers) (next : Bench) → OutputCode b j line edit next → NoneReworked b edit.count next
    pointing_reworks_none j line edit next h =
        let X : Present → Edit = λ p. no_rework (output_edit_answer p j line) in
        let N : Present → Present = λ p. after_output p j line in
        none-listed X N edit next h (third.pointing_reworks_none run s here j line (X (present s)) next (by_value X N edit next h))

    pub changing_reworks_none : (i value constant : ℕ) (edit : EditNumbers) (next : Bench) → EntryCode b i value constant edit next → NoneReworked b edit.count next
    changing_reworks_none i value constant edit next h =
        let X : Present → Edit = λ p. no_rework (entry_edit_answer p i value constant) in
        let N : Present → Present = λ p. after_entry p i value constant in
        none-listed X N edit next h (third.changing_reworks_none run s here i value constant (X (present s)) next (by_value X N edit next h))

    pub limiting_reworks_none : (l : Limits) (edit : EditNumbers) (next : Bench) → LimitsCode b l edit next → NoneReworked b edit.count next
    limiting_reworks_none l edit next h =
        let X : Present → Edit = λ p. no_rework (limits_answer p) in
        let N : Present → Present = λ p. after_limits p l in
        none-listed X N edit next h (third.limiting_reworks_none run s here l (X (present s)) next (by_value X N edit next h))

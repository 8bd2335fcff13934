-- Demand 3: after any sequence of openings, edits, reports, stores and refused calls, the report is what a first-time examination would give of the last
-- accepted opening with every accepted edit since then applied in order; and what an edited gate lists as reworked, and leaves.
use Rattle.std.specs.Prelude.{Result, Ok, Err}
use Rattle.circuit.specs.Rules.{Answer, done}
use mathlib.Core.Path.{◌≡◌, refl, sym, ap, ◌∙◌, subst}
use mathlib.Core.Bool.{Bool, true, false}
use mathlib.Core.List.{List, [], ◌∷◌, ◌++◌}
use Prim.Native.Nat.{ℕ, ◌-◌, ◌^◌, ◌<◌}
use native.Mathlib.Omega.{arith}
use lib.ListN.{length, get_or}
use lib.Pow.{pow_mono}
use Rattle.circuit.specs.declared.Refusal.{Refusal}
use Rattle.circuit.specs.declared.Words.{Words}
use Rattle.circuit.specs.Gate.{no_words, value_in}
use Rattle.circuit.specs.Lines.{Listing, gate_at, depths, and_depths, values, words, padded}
use Rattle.circuit.specs.Sizes.{most_lines}
use Rattle.circuit.proofs.WordLaws.{words-values}
use Rattle.circuit.proofs.Padding.{pad_read}
use Rattle.circuit.proofs.RuleLaws.{circuit_fits}
use Rattle.stored.specs.Stored.{stored}
use Rattle.sweep.specs.Sweep.{swept}
use Rattle.targets.specs.Target.{is_matrix, Brought, as_brought}
use Rattle.bench.specs.declared.Bench.{Bench}
use Rattle.bench.specs.declared.Report.{Report}
use Rattle.bench.specs.declared.Reworked.{Reworked}
use Rattle.bench.specs.State.{Limits, State, with_circuit, with_limits, Present, nothing, present}
use Rattle.bench.specs.Held.{empty_bench, full_bench, bench_of, Stands}
use Rattle.bench.specs.Calls.{Edit, listed_in, after, open_answer, open_state, gate_edit_answer, gate_edited, after_gate, gate_edit, edit_by, readers_of, size_of, output_edit_answer, output_edited, entry_edit_answer, entry_edited, no_rework, append_answer, appended, reported, as_they_are, GatePromise, OutputPromise, EntryPromise, LimitsPromise, ReportPromise}
use Rattle.bench.specs.Run.{Call, after_call, present_from, present_after, RunsBy, Runs}
use Rattle.bench.specs.Run.Call.{opening, replacing, pointing, changing, limiting, sweeping, appending, reporting, storing}
use Rattle.bench.proofs.Readers.{Affected, Lists, gate_edit_lists, marked_affected}
use Rattle.bench.proofs.RunLaws as laws
use Rattle.bench.proofs.RunLaws.{SameLine, after-calls, AllCallable}
use Rattle.claims.proofs.Tables.{call_no}
use Rattle.claims.proofs.FirstDemand.{answer_in, gate-answer, refused_changes_nothing}

-- ---- What is present: the last accepted opening, with every accepted edit since then applied in order.

refused-not_done : (w : Refusal) → Err w ≡ done → ⊥
refused-not_done w e = let z : ◌≡◌ {A = ℕ} 0 1 = cc in omega arith

-- a call that is an accepted opening
abbrev pub Opens : Call → Type 0
Opens (opening bytes t l) = open_answer bytes t ≡ done
Opens (replacing k kind a b) = ⊥
Opens (pointing j line) = ⊥
Opens (changing i value constant) = ⊥
Opens (limiting l) = ⊥
Opens sweeping = ⊥
Opens (appending kind a b) = ⊥
Opens reporting = ⊥
Opens (storing room) = ⊥

-- no opening among some calls is accepted
abbrev pub NoneOpens : List Call → Type 0
NoneOpens [] = Unit {0}
NoneOpens (call ∷ calls) = (Opens call → ⊥) × NoneOpens calls

-- some calls have a last accepted opening, or none
pub data LastOpening (calls : List Call) : Type 0 where
  never : NoneOpens calls → LastOpening calls
  last : (before : List Call) (bytes : List ℕ) (t : Brought) (l : Limits) (since : List Call) → calls ≡ before ++ opening bytes t l ∷ since
      → open_answer bytes t ≡ done → NoneOpens since → LastOpening calls

-- any sequence of calls has one or the other,
pub last_opening : (calls : List Call) → LastOpening calls
last_opening [] = LastOpening.never tt
last_opening (call ∷ calls) = by (last_opening calls)
  where
    here : (call : Call) → NoneOpens calls → LastOpening (call ∷ calls)
    here (opening bytes t l) n = go (open_answer bytes t) refl
      where
        go : (a : Answer) → open_answer bytes t ≡ a → LastOpening (opening bytes t l ∷ calls)
        go (Ok _) e = LastOpening.last [] bytes t l calls refl e n
        go (Err w) e = LastOpening.never (λ d. refused-not_done w (sym e ∙ d), n)
    here (replacing k kind a b) n = LastOpening.never (λ h. h, n)
    here (pointing j line) n = LastOpening.never (λ h. h, n)
    here (changing i value constant) n = LastOpening.never (λ h. h, n)
    here (limiting l) n = LastOpening.never (λ h. h, n)
    here sweeping n = LastOpening.never (λ h. h, n)
    here (appending kind a b) n = LastOpening.never (λ h. h, n)
    here reporting n = LastOpening.never (λ h. h, n)
    here (storing room) n = LastOpening.never (λ h. h, n)

    by : LastOpening calls → LastOpening (call ∷ calls)
    by (LastOpening.never n) = here call n
    by (LastOpening.last before bytes t l since e a n) = LastOpening.last (call ∷ before) bytes t l since (ap (λ (cs : List Call). call ∷ cs) e) a n

-- where none is accepted nothing is present,
pub none_present : (calls : List Call) → NoneOpens calls → present_after calls ≡ nothing
none_present [] n = refl
none_present (call ∷ calls) n = ap (λ (p : Present). present_from p calls) (stays call n.0) ∙ none_present calls n.1
  where
    stays : (call : Call) → (Opens call → ⊥) → after_call nothing call ≡ nothing
    stays (opening bytes t l) h = by (open_answer bytes t) h
      where
        by : (a : Answer) → (a ≡ done → ⊥) → after a (open_state bytes t l) nothing ≡ nothing
        by (Ok _) h = absurd (h refl)
        by (Err w) h = refl
    stays (replacing k kind a b) h = refl
    stays (pointing j line) h = refl
    stays (changing i value constant) h = refl
    stays (limiting l) h = refl
    stays sweeping h = refl
    stays (appending kind a b) h = refl
    stays reporting h = refl
    stays (storing room) h = refl

-- and otherwise it is what was opened, with what was called since then applied in order:
pub since_last_opening : (before since : List Call) (bytes : List ℕ) (t : Brought) (l : Limits) → open_answer bytes t ≡ done
    → present_after (before ++ opening bytes t l ∷ since) ≡ present_from (present (open_state bytes t l)) since
since_last_opening before since bytes t l = laws.since_open before since bytes t l

-- call by call,
pub in_order : (p : Present) (call : Call) (calls : List Call) → present_from p (call ∷ calls) ≡ present_from (after_call p call) calls
in_order p call calls = refl

-- an accepted edit changes the state as it says, and limits are always taken,
module _ (s : State) where
  pub gate_replaced : (k kind a b : ℕ) → gate_edit_answer (present s) k kind a b ≡ done → after_call (present s) (replacing k kind a b) ≡ present (gate_edited s k kind a b)
  gate_replaced k kind a b e = ap (λ (x : Answer). after x (gate_edited s k kind a b) (present s)) e

  pub output_pointed : (j line : ℕ) → output_edit_answer (present s) j line ≡ done → after_call (present s) (pointing j line) ≡ present (output_edited s j line)
  output_pointed j line e = ap (λ (x : Answer). after x (output_edited s j line) (present s)) e

  pub entry_changed : (i value constant : ℕ) → entry_edit_answer (present s) i value constant ≡ done → after_call (present s) (changing i value constant) ≡ present (entry_edited s i value constant)
  entry_changed i value constant e = ap (λ (x : Answer). after x (entry_edited s i value constant) (present s)) e

  pub limits-set : (l : Limits) → after_call (present s) (limiting l) ≡ present (with_limits s l)
  limits-set l = refl

  -- as are a sweep,
  pub all-swept : after_call (present s) sweeping ≡ present (with_circuit s (swept s.circuit))
  all-swept = refl

  pub gate-appended : (kind a b : ℕ) → append_answer (present s) kind a b ≡ done → after_call (present s) (appending kind a b) ≡ present (appended s kind a b)
  gate-appended kind a b e = ap (λ (x : Answer). after x (appended s kind a b) (present s)) e

-- and a refused call, whatever was called, changes nothing (`refused_changes_nothing` in FirstDemand).
pub refused_nothing : (p : Present) (call : Call) → (call_no p call ≡ 0 → ⊥) → after_call p call ≡ p
refused_nothing = refused_changes_nothing

-- Report and store leave the bench as it was.
pub looks_change_nothing : (p : Present) (room : List ℕ) → (after_call p reporting ≡ p) × (after_call p (storing room) ≡ p)
looks_change_nothing p room = (refl, refl)

-- what a bench holds for line i: its value on every input, its depth and its AND depth
pub record HoldsLine (b : Bench) (c : Listing) (i : ℕ) : Type 0 where
  pub value : (x : ℕ) → x < 2 ^ c.inputs → value_in (get_or b.values i no_words) x ≡ get_or (values x c.inputs (gate_at c) (length c.gates)) i 0
  pub depth : get_or b.depths i 0 ≡ get_or (depths c.inputs (gate_at c) (length c.gates)) i 0
  pub and_depth : get_or b.and_depths i 0 ≡ get_or (and_depths c.inputs (gate_at c) (length c.gates)) i 0

-- an edit that lists no line as reworked, after which what is held for each line is unchanged
abbrev pub NoneReworked : Bench → ℕ → Bench → Type 0
NoneReworked b count next = (count ≡ 0) × ((i : ℕ) → SameLine b next i)

-- ---- The report is that of a first-time examination.

module _ {b : Bench} {calls : List Call} (run : Runs empty_bench calls b) where
  -- After any calls a report says what a first-time examination of what is present says,
  pub report_is_first_time : (r : Result Report Refusal) → ReportPromise b r → r ≡ reported (present_after calls)
  report_is_first_time r h = laws.report_after_calls run h

  -- and so does a report on a fresh bench on which that circuit, target and limits were opened just now:
  pub report_as_opened_now : (s : State) → present_after calls ≡ present s → (fresh : Bench)
      → Runs empty_bench (opening (stored s.circuit) (as_brought s.target) s.limits ∷ []) fresh → (r q : Result Report Refusal) → ReportPromise b r → ReportPromise fresh q → r ≡ q
  report_as_opened_now s e fresh now r q h k =
      let same : fresh ≡ b = sym (laws.as_opened_now s run e now) in
      laws.report_after_calls run h ∙ sym (laws.report_after_calls run (subst (λ (x : Bench). ReportPromise x q) same k))

  -- all that is held, too, is what a first-time examination gives.
  pub held_is_first_time : b ≡ bench_of (present_after calls)
  held_is_first_time = (after-calls run).is

  -- ---- An edit of gate k.
  module _ (s : State) (here : present_after calls ≡ present s) where
    stands : Stands b (present s)
    stands = subst (λ (p : Present). Stands b p) here (after-calls run)

    -- Held for each line are its value on every input, its depth and its AND depth.
    pub holds_each_line : (i : ℕ) → HoldsLine b s.circuit i
    unfolding full_bench
    holds_each_line i =
        let c = s.circuit in
        let n8 = (circuit_fits (is_matrix s.target) c stands.sound.circuit).shape.n_most in
        subst (λ (z : Bench). HoldsLine z c i) (sym stands.is)
        (record {
          value = λ x h.
              ap (λ (w : Words). value_in w x) (padding (words c.inputs (gate_at c) (length c.gates)) no_words)
              ∙ words-values c.inputs x (gate_at c) (length c.gates) i (omega (arith, h, pow_mono n8)) n8;
          depth = padding (depths c.inputs (gate_at c) (length c.gates)) 0;
          and_depth = padding (and_depths c.inputs (gate_at c) (length c.gates)) 0;
        })
      where
        padding : {A : Type 0} (l : List A) (d : A) → get_or (padded most_lines d l) i d ≡ get_or l i d
        padding l d = pad_read l (most_lines - length l) i d

    -- An edited gate lists as reworked that gate and every line that reads it, directly or through others, and no more: each once, in ascending order;
    -- and how many: the size of the readers' set defined from the circuit.
    pub lists_reworked : (k kind x y : ℕ) (edit : Edit) (next : Bench) → GatePromise b k kind x y edit next → (r : Reworked) → edit ≡ Ok r
        → Lists s.circuit k r.lines r.count × (r.count ≡ size_of (readers_of s.circuit k))
    lists_reworked k kind x y edit next h r e =
        let q = sym (h (present s) stands).0 ∙ e in
        let d = sym (gate-answer (present s) k kind x y) ∙ ap answer_in q in
        let is = ap listed_in q in (
          subst (λ (z : Reworked). Lists s.circuit k z.lines z.count) is (gate_edit_lists s k kind x y stands.sound d),
          sym (ap (λ (z : Reworked). z.count) is) ∙ ap (λ (a : Answer). (listed_in (edit_by a (readers_of s.circuit k))).count) d,
        )

    -- What is held for all other lines is unchanged.
    pub others_unchanged : (k kind x y : ℕ) (edit : Edit) (next : Bench) → GatePromise b k kind x y edit next
        → (i : ℕ) → (Affected s.circuit k i → ⊥) → SameLine b next i
    others_unchanged k kind x y edit next h i free =
        laws.unreworked s stands.sound k b next kind x y edit stands h i (unmarked (get_or (readers_of s.circuit k) i false) refl)
      where
        unmarked : (t : Bool) → get_or (readers_of s.circuit k) i false ≡ t → get_or (readers_of s.circuit k) i false ≡ false
        unmarked true e = absurd (free (marked_affected s.circuit k i e))
        unmarked false e = e

    -- A gate replaced by itself is accepted, changes nothing, and reworks the same lines as any other accepted replacement of it.
    pub replaced_by_itself : (k : ℕ) → k < length s.circuit.gates → let q = gate_at s.circuit k in
        (after_gate (present s) k q.kind q.left q.right ≡ present s)
        × ((kind x y : ℕ) → gate_edit_answer (present s) k kind x y ≡ done → gate_edit (present s) k q.kind q.left q.right ≡ gate_edit (present s) k kind x y)
    replaced_by_itself k there = (laws.itself_same s stands.sound k there, laws.itself_reworks s stands.sound k there)

    -- Other edits list no line as reworked, and what is held for each line is unchanged.
    lines_stay : (r : State) (a : Answer) (edit : Edit) (next : Bench) → ((i : ℕ) → SameLine (full_bench s) (full_bench r) i)
        → (edit ≡ no_rework a) × (next ≡ bench_of (after a r (present s))) → NoneReworked b (listed_in edit).count next
    lines_stay r a edit next same h = (
      ap (λ (z : Edit). (listed_in z).count) h.0 ∙ none a,
      λ i. subst (λ (z : Bench). SameLine z next i) (sym stands.is) (subst (λ (z : Bench). SameLine (full_bench s) z i) (sym h.1) (by a i)),
    )
      where
        none : (a : Answer) → (listed_in (no_rework a)).count ≡ 0
        none (Ok _) = refl
        none (Err w) = refl

        by : (a : Answer) (i : ℕ) → SameLine (full_bench s) (bench_of (after a r (present s))) i
        by (Ok _) i = same i
        by (Err w) i = record { depth = refl; and_depth = refl; values = refl }

    pub pointing_reworks_none : (j line : ℕ) (edit : Edit) (next : Bench) → OutputPromise b j line edit next → NoneReworked b (listed_in edit).count next
    unfolding full_bench
    pointing_reworks_none j line edit next h =
        lines_stay (output_edited s j line) (output_edit_answer (present s) j line) edit next (λ i. record { depth = refl; and_depth = refl; values = refl }) (h (present s) stands)

    pub changing_reworks_none : (i value constant : ℕ) (edit : Edit) (next : Bench) → EntryPromise b i value constant edit next → NoneReworked b (listed_in edit).count next
    unfolding full_bench
    changing_reworks_none i value constant edit next h =
        lines_stay (entry_edited s i value constant) (entry_edit_answer (present s) i value constant) edit next (λ k. record { depth = refl; and_depth = refl; values = refl })
        (h (present s) stands)

    pub limiting_reworks_none : (l : Limits) (edit : Edit) (next : Bench) → LimitsPromise b l edit next → NoneReworked b (listed_in edit).count next
    unfolding full_bench
    limiting_reworks_none l edit next h =
        lines_stay (with_limits s l) done edit next (λ i. record { depth = refl; and_depth = refl; values = refl }) (h (present s) stands)

-- From any bench, whatever it holds, calls that begin with an accepted opening are as from one with nothing open: all of this holds of them too.
pub from_any_bench : {b last : Bench} {bytes : List ℕ} {t : Brought} {l : Limits} {calls : List Call} → open_answer bytes t ≡ done
    → Runs b (opening bytes t l ∷ calls) last → Runs empty_bench (opening bytes t l ∷ calls) last
from_any_bench e (RunsBy.more mid step rest) = RunsBy.more mid (laws.open_otherwise as_they_are empty_bench e step) rest

-- Whatever is called, with limits that can be held, there is a bench after it: none of this speaks of nothing.
pub calls_go_on : (calls : List Call) → AllCallable calls → (b : Bench) × Runs empty_bench calls b
calls_go_on = laws.runs_exist

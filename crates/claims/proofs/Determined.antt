-- For each public function: two results that meet its promise are equal, the answer, the bench and each lent byte.
--
-- A promise that is an equation, `r ≡ x`, is under `determined`, whatever r is. These are:
--   circuit:  low16, low_byte, no_circuit, gate::{eval_gate, second_read, and_weight, tally}, depth::{deeper, greatest_of, overall_of, depth_of},
--             rules::{is_shape, check_gate, check_output}, and, in the first half of their promise, line_index and refusal_no
--   stored:   reader::read, restore::writing_code
--   sweep:    sweep
--   distance: distance, distance_no, bare_number, refusal_no, table::cost
--   builder:  plan, plan_late
--   formula:  text::{byte_at, span, scan}, keys::{low_key, high_key}, Names::{none, look_up}, Gates::none, and, in the first half of its promise,
--             text::sees and Names::len
--   sheet:    read_file
--   drawing:  Refusal::from
--   targets:  rules::{value_fits, target_fits}, wanted::{input_words, wanted_words}
--   bench:    opening::empty, Bench::is_standing, storing::circuit_of
--   lent:     linked::allpawasi_distance
--   text:     find, skip, read_number, all_hex, is_free, same, and, in the first half of its promise, trim
-- A promise that says more has its own lemma:
--   | function                                                 | lemma                                             |
--   |----------------------------------------------------------|---------------------------------------------------|
--   | stored writer::write                                     | write_determined                                  |
--   | stored restore::restored, linked::allpawasi_restore      | restore_determined                                |
--   | distance table::take_in                                  | take_in_determined                                |
--   | builder build                                            | build_determined                                  |
--   | builder build_no, linked::allpawasi_build                | build_number_determined                           |
--   | builder build_late                                       | late_determined                                   |
--   | builder build_late_no, linked::allpawasi_build_late      | late_number_determined                            |
--   | formula Gates::{add_gate, add_not}                       | gates_determined                                  |
--   | formula Gates::use_line                                  | use_line_determined                               |
--   | formula Gates::fail                                      | fail_determined                                   |
--   | formula levels::read_or                                  | formula_determined                                |
--   | drawing equations                                        | equations_determined                              |
--   | coded equations, linked::allpawasi_equations             | equations_code_determined                         |
--   | bench, report, lent, coded and lent linked:              |                                                   |
--   |   open_matrix, open_table                                | open_determined                                   |
--   |   replace_gate                                           | replace_gate_determined                           |
--   |   point_output                                           | point_output_determined                           |
--   |   change_entry                                           | change_entry_determined                           |
--   |   set_limits                                             | set-limits_determined                             |
--   |   sweep, append_gate                                     | sweep_determined, append-gate_determined          |
--   |   report, store                                          | report_determined, store_determined               |
--   | hint and lent hint                                       | hint_determined                                   |
--   | hint hint_no, linked::allpawasi_hint                     | hint_number_determined                            |
--   | text put, put_labelled, put_numbered, put_numbers,       |                                                   |
--   |   put_hex, put_unhex                                     | put_determined                                    |
--   | text nibble                                              | nibble_determined                                 |
--   | text next_word, to_front                                 | next_word_determined, to_front_determined         |
--   | listing put_counts, put_lines, put_refused, put_placed   | put_determined                                    |
--   | script call_in                                           | call_in_determined                                |
--   | talk answer_line                                         | answer_line_determined                            |
-- Those of the bench are for answers given in any view: as they are (`as_they_are`) by bench, report and lent, as numbers (`as_numbers`) by coded and linked.
use Rattle.std.specs.Prelude.{Option, Some, None, Err}
use Rattle.std.specs.Option.{SomeIff}
use mathlib.Core.Path.{◌≡◌, refl, sym, ap, ◌∙◌}
use mathlib.Core.Bool.{Bool}
use mathlib.Core.List.{List}
use Prim.Native.Nat.{ℕ, ◌-◌, min}
use lib.ListN.{length}
use Rattle.circuit.specs.declared.Circuit.{Circuit}
use Rattle.stored.specs.Writing.{Writing, Wrote, Restored}
use Rattle.stored.proofs.Written as writing
use Rattle.distance.specs.declared.FoundNumbers.{FoundNumbers}
use Rattle.distance.specs.Table.{TakenIn}
use Rattle.distance.proofs.Unique as distances
use Rattle.builder.specs.Call.{Builds, BuildsNumbered}
use Rattle.builder.specs.Late.{BuildsLate, BuildsLateNumbered}
use Rattle.builder.proofs.Promise as building
use Rattle.formula.specs.declared.Gates.{Gates}
use Rattle.formula.specs.declared.Why.{Why}
use Rattle.formula.specs.Emit.{Out, Read, read_at, failed, use_line}
use Rattle.formula.proofs.Unique as reading
use Rattle.drawing.specs.Drawing.{Drawn, EquationsPromise}
use Rattle.targets.specs.Target.{Brought}
use Rattle.bench.specs.declared.Bench.{Bench}
use Rattle.bench.specs.State.{Limits, Present}
use Rattle.bench.specs.Held.{empty_bench, Stands}
use Rattle.bench.specs.Calls.{View, OpenGiven, GateGiven, OutputGiven, EntryGiven, LimitsGiven, SweepGiven, AppendGiven, ReportGiven, StoreGiven}
use Rattle.bench.specs.Run.{Call, present_after, Runs}
use Rattle.bench.proofs.RunLaws.{after-calls}
use Rattle.bench.proofs.Unique as benches
use Rattle.hint.specs.Hint.{Hinted, HintPromise, HintCode}
use Rattle.hint.proofs.Theorems as hints
use Rattle.coded.specs.declared.ReadingNumbers.{ReadingNumbers}
use Rattle.coded.specs.Coded.{EquationsCode}
use Rattle.text.specs.declared.Word.{Word}
use Rattle.text.specs.Putting.{PutFree, fronted}
use Rattle.text.specs.Words.{NextIs}
use Rattle.text.proofs.Unique as texts
use Rattle.script.specs.declared.Call.{Call as LineCall}
use Rattle.script.specs.Order.{Order}
use Rattle.script.specs.Placed.{Means}
use Rattle.script.proofs.Unique as lines
use Rattle.talk.specs.declared.Told.{Told}
use Rattle.talk.specs.Talk.{Answers}
use Rattle.talk.proofs.Unique as talking

-- a promise that says what the result equals
pub determined : {A : Type 0} {r s x : A} → r ≡ x → s ≡ x → r ≡ s
determined p q = p ∙ sym q

-- ---- stored, distance, builder, formula and drawing

pub write_determined : (c : Circuit) (room : List ℕ) (r s : Writing) (out last : List ℕ) → Wrote c room r out → Wrote c room s last → (r ≡ s) × (out ≡ last)
write_determined = writing.wrote_unique

pub restore_determined : (only : Bool) (bytes room : List ℕ) (r s : ℕ) (out last : List ℕ) → Restored only bytes room r out → Restored only bytes room s last
    → (r ≡ s) × (out ≡ last)
restore_determined only bytes room r s out last p q = (determined p.answer q.answer, determined p.bytes q.bytes)

pub take_in_determined : (h r s : List ℕ) (m c end : ℕ) → TakenIn h r m c end → TakenIn h s m c end → r ≡ s
take_in_determined = distances.take_in_unique

pub build_determined : (n : ℕ) (ts : List ℕ) (D : ℕ) (room : List ℕ) (r s : Writing) (out last : List ℕ) → Builds n ts D room r out → Builds n ts D room s last
    → (r ≡ s) × (out ≡ last)
build_determined = building.build_unique

pub build_number_determined : (n : ℕ) (ts : List ℕ) (D : ℕ) (room : List ℕ) (r s : ℕ) (out last : List ℕ) → BuildsNumbered n ts D room r out
    → BuildsNumbered n ts D room s last → (r ≡ s) × (out ≡ last)
build_number_determined = building.numbered_unique

pub late_determined : (n : ℕ) (ar ts ds room : List ℕ) (r s : Writing) (out last : List ℕ) → BuildsLate n ar ts ds room r out → BuildsLate n ar ts ds room s last
    → (r ≡ s) × (out ≡ last)
late_determined = building.late_unique

pub late_number_determined : (n : ℕ) (ar ts ds room : List ℕ) (r s : ℕ) (out last : List ℕ) → BuildsLateNumbered n ar ts ds room r out
    → BuildsLateNumbered n ar ts ds room s last → (r ≡ s) × (out ≡ last)
late_number_determined = building.late_numbered_unique

-- gates that are lent: what they are then, and the line that is answered
pub gates_determined : (g h x : Gates) (r s line : ℕ) → (g ≡ x) × (r ≡ line) → (h ≡ x) × (s ≡ line) → (r ≡ s) × (g ≡ h)
gates_determined g h x r s line p q = (determined p.1 q.1, determined p.0 q.0)

pub use_line_determined : (t g h : Gates) (v : ℕ) → g ≡ use_line t v → h ≡ use_line t v → g ≡ h
use_line_determined t g h v = determined

pub formula_determined : (g h : Gates) (r s : Out) (x : Read) → read_at g r ≡ x → read_at h s ≡ x → (r ≡ s) × (g ≡ h)
formula_determined g h r s x p q = reading.read_determined g h r s (determined p q)

pub fail_determined : (g h : Gates) (r s why : Why) → read_at g (Err r) ≡ failed why → read_at h (Err s) ≡ failed why → (r ≡ s) × (g ≡ h)
fail_determined g h r s why p q =
    let e = formula_determined g h (Err r) (Err s) (failed why) p q in
    let z : ◌≡◌ {A = Out} (Err r) (Err s) = e.0 in
    (cc, e.1)

pub equations_determined : (file room : List ℕ) (r s : Drawn) (out last : List ℕ) → EquationsPromise file room r out → EquationsPromise file room s last
    → (r ≡ s) × (out ≡ last)
equations_determined file room r s out last p q = (determined p.answer q.answer, determined p.bytes q.bytes)

pub equations_code_determined : (file room : List ℕ) (r s : ReadingNumbers) (out last : List ℕ) → EquationsCode file room r out → EquationsCode file room s last
    → (r ≡ s) × (out ≡ last)
equations_code_determined file room r s out last p q = (determined p.answer q.answer, determined p.bytes q.bytes)

-- ---- text, listing and script

pub put_determined : {before out last : List ℕ} {at size r s : ℕ} {bytes : List ℕ} → PutFree before at size bytes out r → PutFree before at size bytes last s
    → (r ≡ s) × (out ≡ last)
put_determined = texts.put_free_unique

pub nibble_determined : (P : Type 0) (v : ℕ) (r s : Option ℕ) → SomeIff r P v → SomeIff s P v → r ≡ s
nibble_determined P v (Some x) (Some y) p q = ap Some (determined p.1 q.1)
nibble_determined P v (Some x) None p q = absurd (q p.0)
nibble_determined P v None (Some y) p q = absurd (p q.0)
nibble_determined P v None None p q = refl

pub next_word_determined : (line : List ℕ) (at : ℕ) (r s : Option Word) → NextIs line at r → NextIs line at s → r ≡ s
next_word_determined = texts.next_is_unique

pub to_front_determined : (room : List ℕ) (from to r s : ℕ) (out last : List ℕ) → (r ≡ min to (length room) - from) × (out ≡ fronted room from r)
    → (s ≡ min to (length room) - from) × (last ≡ fronted room from s) → (r ≡ s) × (out ≡ last)
to_front_determined room from to r s out last p q =
    let e = determined p.0 q.0 in
    (e, p.1 ∙ ap (fronted room from) e ∙ sym q.1)

pub call_in_determined : {line : List ℕ} {r s : LineCall} {o : Order} → Means line r o → Means line s o → r ≡ s
call_in_determined = lines.call_unique

-- ---- the calls: by value, where the bench is given back beside the answer, and lent, where it is changed in place

module _ (v : View) where
  -- an open on any bench, whatever it holds
  pub open_determined : (b : Bench) (bytes : List ℕ) (t : Brought) (l : Limits) (r s : v.Answers) (c d : Bench)
      → OpenGiven v b bytes t l r c → OpenGiven v b bytes t l s d → (r ≡ s) × (c ≡ d)
  open_determined = benches.open_unique v

  -- the others on a bench that calls yield
  module _ {b : Bench} {calls : List Call} (run : Runs empty_bench calls b) where
    abbrev now : Present
    now = present_after calls

    stands : Stands b now
    stands = after-calls run

    pub replace_gate_determined : (k kind x y : ℕ) (r s : v.Edits) (c d : Bench) → GateGiven v b k kind x y r c → GateGiven v b k kind x y s d → (r ≡ s) × (c ≡ d)
    replace_gate_determined = benches.replace_gate_unique v b now stands

    pub point_output_determined : (j line : ℕ) (r s : v.Edits) (c d : Bench) → OutputGiven v b j line r c → OutputGiven v b j line s d → (r ≡ s) × (c ≡ d)
    point_output_determined = benches.point_output_unique v b now stands

    pub change_entry_determined : (i value constant : ℕ) (r s : v.Edits) (c d : Bench) → EntryGiven v b i value constant r c
        → EntryGiven v b i value constant s d → (r ≡ s) × (c ≡ d)
    change_entry_determined = benches.change_entry_unique v b now stands

    pub set-limits_determined : (l : Limits) (r s : v.Edits) (c d : Bench) → LimitsGiven v b l r c → LimitsGiven v b l s d → (r ≡ s) × (c ≡ d)
    set-limits_determined = benches.set-limits_unique v b now stands

    pub sweep_determined : (r s : v.Edits) (c d : Bench) → SweepGiven v b r c → SweepGiven v b s d → (r ≡ s) × (c ≡ d)
    sweep_determined = benches.sweep_unique v b now stands

    pub append-gate_determined : (kind x y : ℕ) (r s : v.Edits) (c d : Bench) → AppendGiven v b kind x y r c → AppendGiven v b kind x y s d → (r ≡ s) × (c ≡ d)
    append-gate_determined = benches.append-gate_unique v b now stands

    pub report_determined : (r s : v.Reports) → ReportGiven v b r → ReportGiven v b s → r ≡ s
    report_determined = benches.report_unique v b now stands

    pub store_determined : (room : List ℕ) (r s : v.Writings) (out last : List ℕ) → StoreGiven v b room r out → StoreGiven v b room s last → (r ≡ s) × (out ≡ last)
    store_determined = benches.store_unique v b now stands

-- ---- a hint, on a bench that calls yield

module _ {b : Bench} {calls : List Call} (run : Runs empty_bench calls b) where
  -- as it is,
  pub hint_determined : (j D : ℕ) (r s : Hinted) → HintPromise b j D r → HintPromise b j D s → r ≡ s
  hint_determined j D = hints.hint_unique b j D (present_after calls) (after-calls run)

  -- and in numbers
  pub hint_number_determined : (j D : ℕ) (r s : FoundNumbers) → HintCode b j D r → HintCode b j D s → r ≡ s
  hint_number_determined j D = hints.hint_no_unique b j D (present_after calls) (after-calls run)

-- ---- a line of the call language, on a bench that calls yield

pub answer_line_determined : {b : Bench} {calls : List Call} → Runs empty_bench calls b → (o : Order) (room : List ℕ) (r s : Told) (out last : List ℕ)
    → Answers b o room out r → Answers b o room last s → (r ≡ s) × (out ≡ last)
answer_line_determined {b} {calls} run o room r s out last = talking.unique b (present_after calls) (after-calls run) o room out last r s

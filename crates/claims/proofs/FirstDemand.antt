-- Demand 1: every call gets an answer; a refusal carries the number that the definition gives for its cause, and bench and lent bytes stay as before.
-- What the causes are, in their order, is in Tables; `GivenExactly number table` says that the number is n exactly when the table says n.
use Rattle.std.specs.Prelude.{Option, Result, Ok, Err}
use mathlib.Core.Path.{◌≡◌, refl, sym, ap, ◌∙◌, subst}
use mathlib.Core.Bool.{Bool, true, false, cond}
use mathlib.Core.List.{List, [], ◌∷◌, map}
use Prim.Native.Nat.{ℕ, zero, suc, ◌+◌, ◌*◌, ◌^◌, ◌<◌, ◌-◌, ◌/◌, min}
use native.Mathlib.Omega.{arith}
use lib.Dec.{leb}
use lib.ListN.{length, get_or, length-append}
use Rattle.circuit.specs.declared.Refusal.{Refusal}
use Rattle.circuit.specs.declared.Refusal.TheVariants.{Target as BadTarget, NoRoom, NotThere, Shape, Length, Mark, UnknownKind, Operand, NoLine, NotLinear, TooDeep, TooShallow, NothingOpen, Full}
use Rattle.circuit.specs.declared.Circuit.{Circuit}
use Rattle.circuit.specs.Lines.{Listing, gate, with_more}
use Rattle.circuit.specs.Structs.{listed, held}
use Rattle.circuit.specs.Rules.{Answer, done, refusal_no, answer_no, and_then, unless, listing_answer}
use Rattle.circuit.proofs.RuleLaws.{circuit_fits}
use Rattle.circuit.proofs.Shapes.{shape_is}
use Rattle.stored.specs.Stored.{stored, listing_in, gate_bytes, out_bytes}
use Rattle.stored.specs.Reading.{reading_answer, read_stored, reading_of}
use Rattle.stored.specs.Writing.{Writing, room_after, Wrote, writing_code, into_room, restore_answer, Restored}
use Rattle.stored.proofs.Accept.{whole}
use Rattle.stored.proofs.Round.{gate_bytes-length, out_bytes-length, read-stored, stored_read}
use Rattle.distance.specs.declared.Refusal.{Refusal as QueryRefusal}
use Rattle.distance.specs.declared.Refusal.TheVariants.{Inputs, Lists, Mask, Depth}
use Rattle.distance.specs.declared.Found.{Found}
use Rattle.distance.specs.declared.FoundNumbers.{FoundNumbers}
use Rattle.distance.specs.Base.{base_of, Line}
use Rattle.distance.specs.Distance.{Gap, gates, never, distance, can, gap_from}
use Rattle.distance.specs.Query.{look_at, answered, answer_of, lines_of, found, found_of, bare_code, found_code, distance_no, distance_code, query_refusal_no, where_sound}
use Rattle.distance.proofs.Refuse.{fit}
use Rattle.distance.proofs.Sound.{found_err, found_code_is}
use Rattle.distance.proofs.Theorems as distances
use Rattle.builder.specs.Call.{built, refusal, build_answer, Builds, BuildsNumbered}
use Rattle.builder.specs.Late.{late_built, late_refusal, late_answer, BuildsLate, BuildsLateNumbered}
use Rattle.builder.proofs.Theorems as building
use Rattle.drawing.specs.declared.Refusal.TheVariants.{BadText, BadName, NoOutputs}
use Rattle.drawing.specs.Drawing.{drawn_no}
use Rattle.targets.specs.Target.{is_matrix, Brought}
use Rattle.bench.specs.declared.Bench.{Bench}
use Rattle.bench.specs.declared.Report.{Report}
use Rattle.bench.specs.State.{State, Present, nothing, present, Limits, SoundPresent}
use Rattle.bench.specs.Calls.{after, reported, open_answer, open_state, gate_edit_answer, gate_edited, output_edit_answer, output_edited, entry_edit_answer, entry_edited, limits_answer, store_answer, gate_edit, reworking, readers_of, no_rework, sweep_edit, append_answer, appended, append_edit, stored_of, Edit, no_lines, listed_in, View, bench_after_open, OpenPromise, GatePromise, OutputPromise, EntryPromise, LimitsPromise, SweepPromise, AppendPromise, ReportPromise, StorePromise}
use Rattle.bench.specs.Run.{Call, after_call, present_after, StepGiven, Runs}
use Rattle.bench.specs.Run.Call.{opening, replacing, pointing, changing, limiting, sweeping, appending, reporting, storing}
use Rattle.bench.specs.Held.{empty_bench, bench_of, Stands}
use Rattle.bench.proofs.SoundLaws.{Callable}
use Rattle.bench.proofs.RunLaws.{after-calls, step_exists}
use Rattle.coded.specs.declared.EditNumbers.{EditNumbers}
use Rattle.coded.specs.declared.ReportNumbers.{ReportNumbers}
use Rattle.coded.specs.Coded.{reported_code, OpenCode, GateCode, OutputCode, EntryCode, LimitsCode, SweepCode, AppendCode, ReportCodePromise, StoreCode}
use Rattle.claims.proofs.Causes.{first, accepted, GivenExactly, none_left}
use Rattle.claims.proofs.Tables.{OutOfRange, reading_table, open_table, replace_table, append_table, point_table, change_table, open_only, store_table, build_table, late_table, distance_table, call_no, call_table}
use Rattle.claims.proofs.Following.{range_law, done_last, given_no, read_law, open_law, replace_law, append_law, sweep_law, point_law, change_law, limits_law, report_law, write_law, store_law, room_then, room_last, build_law, late_law, distance_law}

-- ---- The numbers given back: 1 to 13 and 18, one for each refusal.

abbrev pub refusals : List Refusal
refusals =
    Shape ∷ Length ∷ Mark ∷ UnknownKind ∷ Operand ∷ NoLine ∷ NotLinear ∷ BadTarget ∷ TooDeep ∷ TooShallow ∷ NoRoom ∷ NotThere ∷ NothingOpen ∷ Full ∷ []

pub numbers : map refusal_no refusals ≡ 1 ∷ 2 ∷ 3 ∷ 4 ∷ 5 ∷ 6 ∷ 7 ∷ 8 ∷ 9 ∷ 10 ∷ 11 ∷ 12 ∷ 13 ∷ 18 ∷ []
numbers = refl

-- each refusal stands in the list at its number, 18 last,
abbrev pub refusal_of : ℕ → Refusal
refusal_of n = get_or refusals (min (n - 1) 13) Shape

pub numbered : (w : Refusal) → refusal_of (refusal_no w) ≡ w
numbered Shape = refl
numbered Length = refl
numbered Mark = refl
numbered UnknownKind = refl
numbered Operand = refl
numbered NoLine = refl
numbered NotLinear = refl
numbered BadTarget = refl
numbered TooDeep = refl
numbered TooShallow = refl
numbered NoRoom = refl
numbered NotThere = refl
numbered NothingOpen = refl
numbered Full = refl

-- so that two with the same number are the same,
pub one_each : (v w : Refusal) → refusal_no v ≡ refusal_no w → v ≡ w
one_each v w e = sym (numbered v) ∙ ap refusal_of e ∙ numbered w

pub not-zero : (w : Refusal) → refusal_no w ≡ 0 → ⊥
not-zero w z = let e : w ≡ Shape = sym (numbered w) ∙ ap refusal_of z in omega (arith, z, ap refusal_no e)

-- and those of a distance query are numbers of this table: 1, 2, 8 and 9.
pub query_numbers : (query_refusal_no Inputs ≡ refusal_no Shape) × (query_refusal_no Lists ≡ refusal_no Length) × (query_refusal_no Mask ≡ refusal_no BadTarget) × (query_refusal_no Depth ≡ refusal_no TooDeep)
query_numbers = (refl, refl, refl, refl)

-- An equation file has three more: 15 bad text, 16 a name that is unknown, set already or an input, 17 no input, no output or a gap in the outputs.
pub file_numbers : (place : ℕ) → (drawn_no (Err (BadText place)) ≡ 15) × ((drawn_no (Err (BadName place)) ≡ 16) × (drawn_no (Err NoOutputs) ≡ 17))
file_numbers place = (refl, (refl, refl))

-- No other refusal has their numbers.
pub not_of_files : (w : Refusal) (n : ℕ) → 13 < n → n < 18 → refusal_no w ≡ n → ⊥
not_of_files w n h l e =
    let last : min (n - 1) 13 ≡ 13 = omega arith in
    let full : w ≡ Full = sym (numbered w) ∙ ap refusal_of e ∙ ap (λ (k : ℕ). get_or refusals k Shape) last in
    omega (arith, ap refusal_no full)

-- ---- All calls on a bench

unless_done : (a : Answer) (s : State) (p : Present) → (answer_no a ≡ 0 → ⊥) → after a s p ≡ p
unless_done (Ok _) s p h = absurd (h refl)
unless_done (Err w) s p h = refl

-- A refusal carries the number that the definition gives for its cause: a call's answer has the number n exactly when the call's table says n.
pub call_numbers : (p : Present) (call : Call) → GivenExactly (call_no p call) (call_table p call)
call_numbers p (opening bytes t l) = open_law bytes t
call_numbers p (replacing k kind a b) = replace_law p k kind a b
call_numbers p (pointing j line) = point_law p j line
call_numbers p (changing i value constant) = change_law p i value constant
call_numbers p (limiting l) = limits_law p
call_numbers p sweeping = sweep_law p
call_numbers p (appending kind a b) = append_law p kind a b
call_numbers p reporting = report_law p
call_numbers p (storing room) = store_law p (length room)

-- A refused call, whatever was called, leaves what is present.
pub refused_changes_nothing : (p : Present) (call : Call) → (call_no p call ≡ 0 → ⊥) → after_call p call ≡ p
refused_changes_nothing p (opening bytes t l) h = unless_done (open_answer bytes t) (open_state bytes t l) p h
refused_changes_nothing nothing (replacing k kind a b) h = refl
refused_changes_nothing (present s) (replacing k kind a b) h = unless_done (gate_edit_answer (present s) k kind a b) (gate_edited s k kind a b) (present s) h
refused_changes_nothing nothing (pointing j line) h = refl
refused_changes_nothing (present s) (pointing j line) h = unless_done (output_edit_answer (present s) j line) (output_edited s j line) (present s) h
refused_changes_nothing nothing (changing i value constant) h = refl
refused_changes_nothing (present s) (changing i value constant) h =
    unless_done (entry_edit_answer (present s) i value constant) (entry_edited s i value constant) (present s) h
refused_changes_nothing nothing (limiting l) h = refl
refused_changes_nothing (present s) (limiting l) h = absurd (h refl)
refused_changes_nothing nothing sweeping h = refl
refused_changes_nothing (present s) sweeping h = absurd (h refl)
refused_changes_nothing nothing (appending kind a b) h = refl
refused_changes_nothing (present s) (appending kind a b) h = unless_done (append_answer (present s) kind a b) (appended s kind a b) (present s) h
refused_changes_nothing p reporting h = refl
refused_changes_nothing p (storing room) h = refl

-- ==== What the functions give. A refused call leaves each lent byte: a room that nothing was written to is as it was.

left_alone : (bytes : List ℕ) {a : Writing} {w : Refusal} {room out : List ℕ} → Err w ≡ a → out ≡ room_after a bytes room → out ≡ room
left_alone bytes {room} e h = h ∙ sym (ap (λ (x : Writing). room_after x bytes room) e)

-- An answer as one number is how many bytes, or 65,536 times the refusal's number. So the refusal's number is how often 65,536 goes into it: that
-- is given exactly when the table says so, and where it is not 0 each byte of the room is as it was.
abbrev pub NumberedRoom : ℕ → (ℕ → Type 0) → List ℕ → List ℕ → Type 0
NumberedRoom r table room out = GivenExactly (r / 65536) table × ((r / 65536 ≡ 0 → ⊥) → out ≡ room)

numbered_room : (a : Writing) → ((k : ℕ) → a ≡ Ok k → k < 65536) → (r : ℕ) (table : ℕ → Type 0) (bytes room out : List ℕ)
    → r ≡ writing_code a → out ≡ room_after a bytes room → GivenExactly (answer_no a) table → NumberedRoom r table room out
numbered_room (Ok k) small r table bytes room out e h g =
    let z : r / 65536 ≡ 0 = omega (arith, e, small k refl) in
    (subst (λ (n : ℕ). GivenExactly n table) (sym z) g, λ some. absurd (some z))
numbered_room (Err w) small r table bytes room out e h g =
    let z : r / 65536 ≡ refusal_no w = omega (arith, e) in
    (subst (λ (n : ℕ). GivenExactly n table) (sym z) g, λ some. h)

written_size : (t : Bool) (size k : ℕ) → cond t (Ok size) (Err NoRoom) ≡ Ok k → size ≡ k
written_size true size k e = cc
written_size false size k e = let z : ◌≡◌ {A = ℕ} 0 1 = cc in absurd (omega arith)

-- Length is 5 + 5g + 3m.
pub stored-length : (c : Listing) → length (stored c) ≡ 5 + 5 * length c.gates + 3 * length c.outs
stored-length c = omega (arith, length-append (gate_bytes c.gates) (out_bytes c.outs), gate_bytes-length c.gates, out_bytes-length c.outs)

-- Reading stored bytes: fewer than 5 (2), `SH` (3), shape (1), whole length (2), then record by record mark (3), kind (4), operands (5), linear only (7), line (6).
pub read_numbers : (only : Bool) (s : List ℕ) (r : Result Circuit Refusal) → r ≡ reading_of only s → GivenExactly (answer_no r) (reading_table only s accepted)
read_numbers only s r e =
    subst (λ (n : ℕ). GivenExactly n (reading_table only s accepted))
    (ap answer_no (done_last (reading_answer only s)) ∙ sym (given_no (reading_answer only s) (held (listing_in s))) ∙ sym (ap answer_no e)) (read_law done none_left only s)

-- Each circuit has one stored form: bytes that read as a circuit are its stored bytes, and the stored bytes of a circuit that keeps the rules read as it.
pub one_stored_form : (only : Bool) (s : List ℕ) (c : Listing) → read_stored only s ≡ Ok c → s ≡ stored c
one_stored_form = stored_read

pub stored-reads-back : (only : Bool) (c : Listing) → listing_answer only c ≡ done → read_stored only (stored c) ≡ Ok c
stored-reads-back = read-stored

-- Writing a circuit: out of range (1), the lent room shorter than the stored bytes (11).
pub write_numbers : (c : Circuit) (room : List ℕ) (r : Writing) (out : List ℕ) → Wrote c room r out
    → GivenExactly (answer_no r) (first 1 (OutOfRange c.n c.m c.g) (first 11 (length room < length (stored (listed c))) accepted))
write_numbers c room r out h =
    subst (λ (a : Writing). GivenExactly (answer_no a) (first 1 (OutOfRange c.n c.m c.g) (first 11 (length room < length (stored (listed c))) accepted))) (sym h.answer)
    (write_law c (length room) (range_law c.n c.m c.g))

pub write_refused : (c : Circuit) (room : List ℕ) (w : Refusal) (out : List ℕ) → Wrote c room (Err w) out → out ≡ room
write_refused c room w out h = left_alone (stored (listed c)) h.answer h.bytes

-- Reading stored bytes and storing the circuit again: as reading, then the room (11).
pub restore_numbered : (only : Bool) (s room : List ℕ) (r : ℕ) (out : List ℕ) → Restored only s room r out
    → NumberedRoom r (reading_table only s (first 11 (length room < length s) accepted)) room out
restore_numbered only s room r out h =
    numbered_room (restore_answer only s (length room)) small r (reading_table only s (first 11 (length room < length s) accepted)) s room out h.answer h.bytes
    (subst (λ (number : ℕ). GivenExactly number (reading_table only s (first 11 (length room < length s) accepted))) (room_then (reading_answer only s) (length s) (length room))
    (read_law (unless (leb (length s) (length room)) NoRoom done) (room_last (length s) (length room)) only s))
  where
    small : (k : ℕ) → restore_answer only s (length room) ≡ Ok k → k < 65536
    small k e = by (reading_answer only s) refl e
      where
        by : (a : Answer) → reading_answer only s ≡ a → into_room a (length s) (length room) ≡ Ok k → k < 65536
        by (Ok _) q e = let w = whole only s q in omega (arith, written_size (leb (length s) (length room)) (length s) k e, w.m_most, w.g_most, w.long)
        by (Err w) q e = let z : ◌≡◌ {A = ℕ} 0 1 = cc in absurd (omega arith)

-- a circuit that passes the rules is stored in fewer bytes than 65,536
written_below : (a : Answer) (c : Listing) → (a ≡ done → listing_answer true c ≡ done) → (room k : ℕ) → into_room a (length (stored c)) room ≡ Ok k → k < 65536
written_below (Ok _) c sound room k e =
    let f = shape_is _ _ _ (circuit_fits true c (sound refl)).shaped-true in
    omega (arith, written_size (leb (length (stored c)) room) (length (stored c)) k e, stored-length c, f.m_most, f.g_most)
written_below (Err w) c sound room k e = let z : ◌≡◌ {A = ℕ} 0 1 = cc in absurd (omega arith)

-- Build: 1, 8, 9, 10, 11.
pub build_numbers : (n : ℕ) (ts : List ℕ) (D : ℕ) (room : List ℕ) (r : Writing) (out : List ℕ) → Builds n ts D room r out
    → GivenExactly (answer_no r) (build_table n ts D (length room))
build_numbers n ts D room r out h =
    subst (λ (a : Writing). GivenExactly (answer_no a) (build_table n ts D (length room))) (sym h.answer) (build_law n ts D (length room))

pub build_refused : (n : ℕ) (ts : List ℕ) (D : ℕ) (room : List ℕ) (w : Refusal) (out : List ℕ) → Builds n ts D room (Err w) out → out ≡ room
build_refused n ts D room w out h = left_alone (stored (built n ts D)) h.answer h.bytes

pub build_numbered : (n : ℕ) (ts : List ℕ) (D : ℕ) (room : List ℕ) (r : ℕ) (out : List ℕ) → BuildsNumbered n ts D room r out
    → NumberedRoom r (build_table n ts D (length room)) room out
unfolding build_answer
build_numbered n ts D room r out h =
    numbered_room (build_answer n ts D (length room)) (written_below (refusal n ts D) (built n ts D) (building.sound_circuit n ts D) (length room)) r
    (build_table n ts D (length room)) (stored (built n ts D)) room out h.answer h.bytes (build_law n ts D (length room))

-- Build with late signals: 1, 2, 8, 9, 10, 11.
pub late_numbers : (n : ℕ) (ar ts ds room : List ℕ) (r : Writing) (out : List ℕ) → BuildsLate n ar ts ds room r out
    → GivenExactly (answer_no r) (late_table n ar ts ds (length room))
late_numbers n ar ts ds room r out h =
    subst (λ (a : Writing). GivenExactly (answer_no a) (late_table n ar ts ds (length room))) (sym h.answer) (late_law n ar ts ds (length room))

pub late_refused : (n : ℕ) (ar ts ds room : List ℕ) (w : Refusal) (out : List ℕ) → BuildsLate n ar ts ds room (Err w) out → out ≡ room
late_refused n ar ts ds room w out h = left_alone (stored (late_built n ar ts ds)) h.answer h.bytes

pub late_numbered : (n : ℕ) (ar ts ds room : List ℕ) (r : ℕ) (out : List ℕ) → BuildsLateNumbered n ar ts ds room r out
    → NumberedRoom r (late_table n ar ts ds (length room)) room out
unfolding late_answer
late_numbered n ar ts ds room r out h =
    numbered_room (late_answer n ar ts ds (length room)) (written_below (late_refusal n ar ts ds) (late_built n ar ts ds) (building.late_sound n ar ts ds) (length room)) r
    (late_table n ar ts ds (length room)) (stored (late_built n ar ts ds)) room out h.answer h.bytes (late_law n ar ts ds (length room))

-- Distance: 1, 2, 8, 9. No distance is not a refusal.
pub distance-numbers : (n : ℕ) (ms ds : List ℕ) (t D : ℕ) (r : Result (Option Found) QueryRefusal) → r ≡ found_of n ms ds t D
    → GivenExactly (distance_no r) (distance_table n ms ds t D)
distance-numbers n ms ds t D r e =
    subst (λ (number : ℕ). GivenExactly number (distance_table n ms ds t D)) (sym (by (answer_of n ms ds t D)) ∙ sym (ap distance_no e)) (distance_law n ms ds t D)
  where
    by : (a : Result (Option ℕ) QueryRefusal) → distance_no (found a (lines_of n ms ds t D)) ≡ distance_no a
    by (Ok g) = refl
    by (Err w) = refl

-- a refused query answers no lines: none stand beside it, in numbers neither
pub distance-refused : (n : ℕ) (ms ds : List ℕ) (t D : ℕ) (r : Result (Option Found) QueryRefusal) (w : QueryRefusal) → r ≡ found_of n ms ds t D → r ≡ Err w
    → (lines_of n ms ds t D ≡ []) × (found_code r ≡ bare_code (100 + query_refusal_no w))
distance-refused n ms ds t D r w e f =
    let a = found_err n ms ds t D w (sym e ∙ f) in
    (distances.query_refused_lines n ms ds t D w ((distances.query_refused n ms ds t D w).0 a), ap found_code f)

-- the query in numbers: 100 and the refusal's, and what is not refused is below that
pub distance-numbered : (n : ℕ) (ms ds : List ℕ) (t D : ℕ) (r : FoundNumbers) → r ≡ found_code (found_of n ms ds t D) → GivenExactly (r.code - 100) (distance_table n ms ds t D)
unfolding answer_of
distance-numbered n ms ds t D r e =
    subst (λ (number : ℕ). GivenExactly number (distance_table n ms ds t D)) (sym (ap (λ (x : FoundNumbers). x.code - 100) (e ∙ found_code_is n ms ds t D) ∙ code (look_at n ms ds t D) refl)) (distance_law n ms ds t D)
  where
    below : (f g t b k : ℕ) (ls : List Line) → gap_from f g t b ls ≡ gates k → k < g + f
    below zero g t b k ls e = let z : ◌≡◌ {A = ℕ} 0 1 = cc in absurd (omega arith)
    below (suc f) g t b k ls e = by (can (suc g) t b ls) e (below f (suc g) t b k ls)
      where
        by : (x : Bool) → cond x (gates g) (gap_from f (suc g) t b ls) ≡ gates k → (gap_from f (suc g) t b ls ≡ gates k → k < suc g + f) → k < g + suc f
        by true e rest = let z : g ≡ k = cc in omega arith
        by false e rest = omega (arith, rest e)

    few : n < 9 → (x : Gap) → distance n (base_of ms ds) t D ≡ x → distance_code (Ok (answered x)) - 100 ≡ 0
    few h (gates g) e = omega (arith, below n 0 t (2 ^ D) g (base_of ms ds) e)
    few h never e = refl

    code : (x : Result (Unit {0}) QueryRefusal) → look_at n ms ds t D ≡ x
        → distance_code (where_sound x (answered (distance n (base_of ms ds) t D))) - 100 ≡ distance_no (where_sound x (answered (distance n (base_of ms ds) t D)))
    code (Ok u) e = few (fit n ms ds t D e).few_inputs (distance n (base_of ms ds) t D) refl
    code (Err w) e = omega arith

-- ==== Open, on any bench, whatever it holds: as reading, last the target (8). A refused open keeps the earlier bench.

module _ (b : Bench) (bytes : List ℕ) (t : Brought) (l : Limits) (next : Bench) where
  open_kept : (a : Answer) → (answer_no a ≡ 0 → ⊥) → bench_after_open a (open_state bytes t l) b ≡ b
  open_kept (Ok _) h = absurd (h refl)
  open_kept (Err w) h = refl

  pub open_numbers : (answer : Answer) → OpenPromise b bytes t l answer next → GivenExactly (answer_no answer) (open_table bytes t)
  open_numbers answer h = subst (λ (a : Answer). GivenExactly (answer_no a) (open_table bytes t)) (sym h.0) (open_law bytes t)

  pub open_refused : (w : Refusal) → OpenPromise b bytes t l (Err w) next → next ≡ b
  open_refused w h = h.1 ∙ open_kept (open_answer bytes t) (λ z. not-zero w (ap answer_no h.0 ∙ z))

  -- the same where the answer is a number
  pub open_numbered : (number : ℕ) → OpenCode b bytes t l number next → GivenExactly number (open_table bytes t) × ((number ≡ 0 → ⊥) → next ≡ b)
  open_numbered number h = (
    subst (λ (n : ℕ). GivenExactly n (open_table bytes t)) (sym h.0) (open_law bytes t),
    λ some. h.1 ∙ open_kept (open_answer bytes t) (λ z. some (h.0 ∙ z)),
  )

-- ==== The other calls, on a bench that calls yield, from one with nothing open. `now` is what is present.

-- whether it is accepted, or why not, whatever it gives
abbrev pub answer_in : {A : Type 0} → Result A Refusal → Answer
answer_in (Ok x) = done
answer_in (Err w) = Err w

number_in : {A : Type 0} (r : Result A Refusal) → answer_no r ≡ answer_no (answer_in r)
number_in (Ok x) = refl
number_in (Err w) = refl

-- the answer of an edit that gives a set of lines
as_answered : {A : Type 0} (x : Answer) (given : A) → answer_in (and_then x (Ok given)) ≡ x
as_answered (Ok _) given = refl
as_answered (Err w) given = refl

pub gate-answer : (p : Present) (k kind a b : ℕ) → answer_in (gate_edit p k kind a b) ≡ gate_edit_answer p k kind a b
unfolding gate_edit_answer
gate-answer nothing k kind a b = refl
gate-answer (present s) k kind a b = as_answered (gate_edit_answer (present s) k kind a b) (reworking (readers_of s.circuit k))

pub append-answer : (p : Present) (kind a b : ℕ) → answer_in (append_edit p kind a b) ≡ append_answer p kind a b
unfolding append_answer
append-answer nothing kind a b = refl
append-answer (present s) kind a b =
    as_answered (append_answer (present s) kind a b) (reworking (readers_of (with_more s.circuit (gate kind a b)) (length s.circuit.gates)))

gate_number : (p : Present) (k kind a b : ℕ) → answer_no (gate_edit p k kind a b) ≡ answer_no (gate_edit_answer p k kind a b)
gate_number p k kind a b = number_in (gate_edit p k kind a b) ∙ ap answer_no (gate-answer p k kind a b)

append_number : (p : Present) (kind a b : ℕ) → answer_no (append_edit p kind a b) ≡ answer_no (append_answer p kind a b)
append_number p kind a b = number_in (append_edit p kind a b) ∙ ap answer_no (append-answer p kind a b)

report_number : (r : Result Report Refusal) → (reported_code r).refusal ≡ answer_no r
report_number (Ok r) = refl
report_number (Err w) = refl

module _ {b : Bench} {calls : List Call} (run : Runs empty_bench calls b) where
  abbrev now : Present
  now = present_after calls

  stands : Stands b now
  stands = after-calls run

  -- a number that is the call's is given exactly when the table says so, and a refused call leaves the bench
  given : (call : Call) {number : ℕ} → number ≡ call_no now call → GivenExactly number (call_table now call)
  given call e = subst (λ (x : ℕ). GivenExactly x (call_table now call)) (sym e) (call_numbers now call)

  kept : (call : Call) {number : ℕ} {next : Bench} → (number ≡ 0 → ⊥) → number ≡ call_no now call → next ≡ bench_of (after_call now call) → next ≡ b
  kept call some e h = h ∙ ap bench_of (refused_changes_nothing now call (λ z. some (e ∙ z))) ∙ sym stands.is

  -- Every call gets an answer, as it is or as numbers: for each there is a bench, with an answer, that its promise allows.
  pub every_call_answers : (v : View) (call : Call) → Callable call → StepGiven v b call (bench_of (after_call now call))
  every_call_answers v = step_exists v b now stands

  -- Edits: 13, 12, then 4, 5, 7 for a gate, 6 for an output, 8 for an entry; append 13, 18, then 4, 5, 7; limits and sweep 13. A refused one leaves
  -- the bench, and gives its number only: no line is listed.
  abbrev EditNumbered : Call → Edit → Bench → Type 0
  EditNumbered call edit next =
      GivenExactly (answer_no edit) (call_table now call) × ((w : Refusal) → edit ≡ Err w → (next ≡ b) × (listed_in edit ≡ no_lines))

  -- an edit that gives x, whose number is the call's
  edit_numbered : (call : Call) (x edit : Edit) (next : Bench) → answer_no x ≡ call_no now call → (edit ≡ x) × (next ≡ bench_of (after_call now call)) → EditNumbered call edit next
  edit_numbered call x edit next is h =
      let q = ap answer_no h.0 ∙ is in
      (given call q, λ w r. (kept call (not-zero w) (sym (ap answer_no r) ∙ q) h.1, ap listed_in r))

  module _ (k kind x y : ℕ) (edit : Edit) (next : Bench) (h : GatePromise b k kind x y edit next) where
    replacement : EditNumbered (replacing k kind x y) edit next
    replacement =
        edit_numbered (replacing k kind x y) (gate_edit now k kind x y) edit next (gate_number now k kind x y) (h now stands)

    pub replace_numbers : GivenExactly (answer_no edit) (replace_table now k kind x y)
    replace_numbers = replacement.0

    pub replace_refused : (w : Refusal) → edit ≡ Err w → (next ≡ b) × (listed_in edit ≡ no_lines)
    replace_refused = replacement.1

  module _ (kind x y : ℕ) (edit : Edit) (next : Bench) (h : AppendPromise b kind x y edit next) where
    addition : EditNumbered (appending kind x y) edit next
    addition = edit_numbered (appending kind x y) (append_edit now kind x y) edit next (append_number now kind x y) (h now stands)

    pub append-numbers : GivenExactly (answer_no edit) (append_table now kind x y)
    append-numbers = addition.0

    pub append-refused : (w : Refusal) → edit ≡ Err w → (next ≡ b) × (listed_in edit ≡ no_lines)
    append-refused = addition.1

  module _ (edit : Edit) (next : Bench) (h : SweepPromise b edit next) where
    sweeping_up : EditNumbered sweeping edit next
    sweeping_up = edit_numbered sweeping (sweep_edit now) edit next refl (h now stands)

    pub sweep_numbers : GivenExactly (answer_no edit) (open_only now)
    sweep_numbers = sweeping_up.0

    pub sweep_refused : (w : Refusal) → edit ≡ Err w → (next ≡ b) × (listed_in edit ≡ no_lines)
    sweep_refused = sweeping_up.1

  -- an edit that reworks no line
  reworkless : (call : Call) (edit : Edit) (a : Answer) (next : Bench) → answer_no a ≡ call_no now call → (edit ≡ no_rework a) × (next ≡ bench_of (after_call now call)) → EditNumbered call edit next
  reworkless call edit a next e = edit_numbered call (no_rework a) edit next (given_no a no_lines ∙ e)

  module _ (j line : ℕ) (edit : Edit) (next : Bench) (h : OutputPromise b j line edit next) where
    pub point_numbers : GivenExactly (answer_no edit) (point_table now j line)
    point_numbers = (reworkless (pointing j line) edit (output_edit_answer now j line) next refl (h now stands)).0

    pub point_refused : (w : Refusal) → edit ≡ Err w → (next ≡ b) × (listed_in edit ≡ no_lines)
    point_refused = (reworkless (pointing j line) edit (output_edit_answer now j line) next refl (h now stands)).1

  module _ (i value constant : ℕ) (edit : Edit) (next : Bench) (h : EntryPromise b i value constant edit next) where
    pub change_numbers : GivenExactly (answer_no edit) (change_table now i value constant)
    change_numbers = (reworkless (changing i value constant) edit (entry_edit_answer now i value constant) next refl (h now stands)).0

    pub change_refused : (w : Refusal) → edit ≡ Err w → (next ≡ b) × (listed_in edit ≡ no_lines)
    change_refused = (reworkless (changing i value constant) edit (entry_edit_answer now i value constant) next refl (h now stands)).1

  module _ (l : Limits) (edit : Edit) (next : Bench) (h : LimitsPromise b l edit next) where
    pub limits-numbers : GivenExactly (answer_no edit) (open_only now)
    limits-numbers = (reworkless (limiting l) edit (limits_answer now) next refl (h now stands)).0

    pub limits-refused : (w : Refusal) → edit ≡ Err w → (next ≡ b) × (listed_in edit ≡ no_lines)
    limits-refused = (reworkless (limiting l) edit (limits_answer now) next refl (h now stands)).1

  -- Report: 13. Store: 13, 11. Neither takes a bench to change; a refused store leaves each byte of the room.
  pub report-numbers : (r : Result Report Refusal) → ReportPromise b r → GivenExactly (answer_no r) (open_only now)
  report-numbers r h = given reporting (ap answer_no (h now stands))

  module _ (room out : List ℕ) where
    pub store_numbers : (r : Writing) → StorePromise b room r out → GivenExactly (answer_no r) (store_table now (length room))
    store_numbers r h = given (storing room) (ap answer_no (h now stands).0)

    pub store_refused : (w : Refusal) → StorePromise b room (Err w) out → out ≡ room
    store_refused w h = left_alone (stored_of now) (h now stands).0 (h now stands).1

  -- ---- The same where answers are numbers, as other languages call them: the number is given exactly when the table says so, and where it is not 0 the bench is as it was.
  abbrev Numbered : Call → ℕ → Bench → Type 0
  Numbered call number next = GivenExactly number (call_table now call) × ((number ≡ 0 → ⊥) → next ≡ b)

  coded : (call : Call) (number : ℕ) (next : Bench) → number ≡ call_no now call → next ≡ bench_of (after_call now call) → Numbered call number next
  coded call number next e h = (given call e, λ some. kept call some e h)

  pub replace_numbered : (k kind x y : ℕ) (edit : EditNumbers) (next : Bench) → GateCode b k kind x y edit next → Numbered (replacing k kind x y) edit.refusal next
  replace_numbered k kind x y edit next h =
      coded (replacing k kind x y) edit.refusal next (ap (λ (e : EditNumbers). e.refusal) (h now stands).0 ∙ gate_number now k kind x y) (h now stands).1

  pub point_numbered : (j line : ℕ) (edit : EditNumbers) (next : Bench) → OutputCode b j line edit next → Numbered (pointing j line) edit.refusal next
  point_numbered j line edit next h =
      coded (pointing j line) edit.refusal next (ap (λ (e : EditNumbers). e.refusal) (h now stands).0 ∙ given_no (output_edit_answer now j line) no_lines) (h now stands).1

  pub change_numbered : (i value constant : ℕ) (edit : EditNumbers) (next : Bench) → EntryCode b i value constant edit next → Numbered (changing i value constant) edit.refusal next
  change_numbered i value constant edit next h =
      coded (changing i value constant) edit.refusal next (ap (λ (e : EditNumbers). e.refusal) (h now stands).0 ∙ given_no (entry_edit_answer now i value constant) no_lines) (h now stands).1

  pub limits-numbered : (l : Limits) (edit : EditNumbers) (next : Bench) → LimitsCode b l edit next → Numbered (limiting l) edit.refusal next
  limits-numbered l edit next h =
      coded (limiting l) edit.refusal next (ap (λ (e : EditNumbers). e.refusal) (h now stands).0 ∙ given_no (limits_answer now) no_lines) (h now stands).1

  pub sweep_numbered : (edit : EditNumbers) (next : Bench) → SweepCode b edit next → Numbered sweeping edit.refusal next
  sweep_numbered edit next h = coded sweeping edit.refusal next (ap (λ (e : EditNumbers). e.refusal) (h now stands).0) (h now stands).1

  pub append-numbered : (kind x y : ℕ) (edit : EditNumbers) (next : Bench) → AppendCode b kind x y edit next → Numbered (appending kind x y) edit.refusal next
  append-numbered kind x y edit next h =
      coded (appending kind x y) edit.refusal next (ap (λ (e : EditNumbers). e.refusal) (h now stands).0 ∙ append_number now kind x y) (h now stands).1

  pub report_numbered : (r : ReportNumbers) → ReportCodePromise b r → GivenExactly r.refusal (open_only now)
  report_numbered r h = given reporting (ap (λ (e : ReportNumbers). e.refusal) (h now stands) ∙ report_number (reported now))

  pub store_numbered : (room : List ℕ) (r : ℕ) (out : List ℕ) → StoreCode b room r out → NumberedRoom r (store_table now (length room)) room out
  unfolding store_answer
  store_numbered room r out h =
      numbered_room (store_answer now (length room)) (small now stands.sound) r (store_table now (length room)) (stored_of now) room out (h now stands).0 (h now stands).1
      (call_numbers now (storing room))
    where
      small : (p : Present) → SoundPresent p → (k : ℕ) → store_answer p (length room) ≡ Ok k → k < 65536
      small nothing ok k e = let z : ◌≡◌ {A = ℕ} 0 1 = cc in absurd (omega arith)
      small (present s) ok k e =
          let f = (circuit_fits (is_matrix s.target) s.circuit ok.circuit).shape in
          omega (arith, written_size (leb (length (stored s.circuit)) (length room)) (length (stored s.circuit)) k e, stored-length s.circuit, f.g_most, f.m_most)

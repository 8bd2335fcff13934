-- The answers of the definition follow the tables: each law says that a number is given exactly when the table says so.
use Rattle.std.specs.Prelude.{Result, Ok, Err}
use mathlib.Core.Path.{◌≡◌, refl, sym, ap, ◌∙◌, subst}
use mathlib.Core.Bool.{Bool, true, false, true≢false, cond, not, ◌&&◌, ◌||◌}
use mathlib.Core.Logic.{◌⊎◌, inl, inr}
use mathlib.Core.List.{List, [], ◌∷◌, map}
use Prim.Native.Nat.{ℕ, zero, suc, ◌+◌, ◌*◌, ◌^◌, ◌≤◌, ◌<◌}
use native.Mathlib.Nat.{add-zero}
use native.Mathlib.Omega.{arith}
use borrow.Author.Tests.{leb-true, eqb-true, eqb-false}
use lib.Dec.{leb, eqb}
use lib.ListN.{length, get_or, drop}
use lib.Seq.{get_or-drop, drop-drop}
use Rattle.circuit.specs.declared.Refusal.{Refusal}
use Rattle.circuit.specs.declared.Circuit.{Circuit}
use Rattle.circuit.specs.declared.Refusal.TheVariants.{Shape, Length, Mark, UnknownKind, Operand, NotLinear, Target as BadTarget, TooDeep, TooShallow, NoRoom, NotThere, Full}
use Rattle.circuit.specs.Gate.{kind_of, nonlinear, allowed}
use Rattle.circuit.specs.Lines.{Gate, Listing, gate, any_of}
use Rattle.circuit.specs.Structs.{listed}
use Rattle.circuit.specs.Rows.{Row, row}
use Rattle.circuit.specs.Rules.{Answer, done, refusal_no, answer_no, and_then, unless, shaped, operands_fit, gate_answer, out_answer, all_of}
use Rattle.circuit.specs.Sizes.{most_inputs, most_outputs, most_gates}
use Rattle.circuit.proofs.GateLaws.{low_xor, middle-nonlinear, high_counts}
use Rattle.circuit.proofs.Operands.{by_operands}
use Rattle.circuit.proofs.RuleLaws.{two_fit, one_fits}
use Rattle.circuit.proofs.Shapes.{past, then_done}
use Rattle.stored.specs.Stored.{SH, GT, records, gate_in, stored, listing_in, out_in}
use Rattle.stored.specs.Reading.{is_mark, gate_record, out_record, gate_here, out_here, answers, body_answer, reading_answer, read_stored}
use Rattle.stored.specs.Writing.{into_room, write_answer}
use Rattle.stored.proofs.Records.{records_length}
use Rattle.distance.specs.declared.Refusal.{Refusal as QueryRefusal}
use Rattle.distance.specs.declared.Refusal.TheVariants.{Inputs, Lists, Mask, Depth}
use Rattle.distance.specs.Base.{base_of, weight, load}
use Rattle.distance.specs.Distance.{distance}
use Rattle.distance.specs.Query.{any_from, bad_lists, bad_mask, bad_depth, refuse, look_at, answered, answer_of, distance_no, where_sound}
use Rattle.builder.specs.Rule.{rows_of}
use Rattle.builder.specs.Call.{built, bad_row, too_heavy, refusal, build_answer}
use Rattle.builder.specs.Late.{late_built, lists_fit, any_deep, too_late, late_refusal, late_answer}
use Rattle.targets.specs.Target.{Target, matrix, table, is_matrix, row_is_sound, entry_fits, target_fits, rows_in, Brought, brought, brought_fits}
use Rattle.targets.proofs.Fitting as fitting
use Rattle.bench.specs.State.{Present, nothing, present}
use Rattle.bench.specs.Calls.{open_answer, gate_edit_answer, output_edit_answer, entry_answer, entry_edit_answer, limits_answer, sweep_edit, append_answer, reported, store_answer}
use Rattle.claims.proofs.Causes.{first, accepted, GivenExactly, Some, none_left, Tells, Fails, tells_as, fails_as, fails_where_not, not_fails, not_tells, tells_or, tells_lt, tells_le, tells_eq, fails_and, fails_lt, fails_le, tells_some, chain_under, chain, chain_on}
use Rattle.claims.proofs.Tables.{OutOfRange, BadOperand, NonlinearKind, gate_table, BadRow, BrokenRow, BrokenBytes, BrokenTarget, records_table, gate_record_table, out_record_table, body_table, reading_table, open_table, opened_table, replace_table, append_table, point_table, entry_causes, change_table, open_only, store_table, build_table, LateRow, late_table, distance_table}

pub range_law : (n m g : ℕ) → Fails (shaped n m g) (OutOfRange n m g)
unfolding shaped
range_law n m g = fails_and (fails_le 1 n) (fails_and (fails_le n most_inputs) (fails_and (fails_le 1 m) (fails_and (fails_le m most_outputs) (fails_le g most_gates))))

mark_law : (a b p q : ℕ) → Fails (eqb a p && eqb b q) ((a ≡ p → ⊥) ⊎ (b ≡ q → ⊥))
mark_law a b p q = fails_and (fails_where_not (tells_eq a p)) (fails_where_not (tells_eq b q))

-- the operands of a known kind: NOT reads one, the others two
operand_law : (line kind a b : ℕ) → kind ≤ 6 → Fails (operands_fit line (gate kind a b)) (BadOperand line kind a b)
operand_law line kind a b k =
    by_operands (λ (q : Gate). q.kind ≤ 6 → Fails (operands_fit line q) (BadOperand line q.kind q.left q.right)) (gate kind a b) two one k
  where
    two : kind ≤ 5 → kind ≤ 6 → Fails (operands_fit line (gate kind a b)) (BadOperand line kind a b)
    two h k = subst (λ (t : Bool). Fails t (BadOperand line kind a b)) (sym (two_fit line (gate kind a b) h)) (fails_as into back (fails_and (fails_lt a line) (fails_lt b line)))
      where
        into : (line ≤ a) ⊎ (line ≤ b) → BadOperand line kind a b
        into (inl x) = inl x
        into (inr x) = inr (inr ((λ e. absurd (omega arith)), x))

        back : BadOperand line kind a b → (line ≤ a) ⊎ (line ≤ b)
        back (inl x) = inl x
        back (inr (inl x)) = let e = x.0 in absurd (omega arith)
        back (inr (inr x)) = inr x.1

    one : 6 ≤ kind → kind ≤ 6 → Fails (operands_fit line (gate kind a b)) (BadOperand line kind a b)
    one h k = subst (λ (t : Bool). Fails t (BadOperand line kind a b)) (sym (one_fits line (gate kind a b) h)) (fails_as into back (fails_and (fails_lt a line) (fails_where_not (tells_eq b 0))))
      where
        into : (line ≤ a) ⊎ (b ≡ 0 → ⊥) → BadOperand line kind a b
        into (inl x) = inl x
        into (inr x) = inr (inl (omega arith, x))

        back : BadOperand line kind a b → (line ≤ a) ⊎ (b ≡ 0 → ⊥)
        back (inl x) = inl x
        back (inr (inl x)) = inr x.1
        back (inr (inr x)) = let e : kind ≡ 6 = omega arith in absurd (x.0 e)

-- a kind is linear
abbrev linear_kind : ℕ → Bool
linear_kind kind = eqb (nonlinear (kind_of kind)) 0

-- kinds 2 to 5 are nonlinear, and no others
linear_law : (kind : ℕ) → Fails (linear_kind kind) (NonlinearKind kind)
linear_law kind =
    record {
      holds = λ e.
          let low : kind ≤ 1 → ⊥ = λ h. eqb-false (nonlinear (kind_of kind)) 0 e (low_xor kind h).nonlinears in
          let high : 6 ≤ kind → ⊥ = λ h. eqb-false (nonlinear (kind_of kind)) 0 e (high_counts kind h).nonlinears in
          (omega (arith, low), omega (arith, high));
      not_else = λ e h. omega (arith, eqb-true (nonlinear (kind_of kind)) 0 e, (middle-nonlinear kind h.0 h.1).nonlinears);
    }

only_law : (only : Bool) (kind : ℕ) → Fails (allowed only (kind_of kind)) ((only ≡ true) × NonlinearKind kind)
only_law true kind = fails_as (λ h. (refl, h)) (λ h. h.1) (linear_law kind)
only_law false kind = record { holds = λ e. absurd (true≢false e); not_else = λ e h. true≢false (sym h.0) }

row_law : (n : ℕ) (r : Row) → Fails (row_is_sound n r) (BrokenRow n r)
unfolding row_is_sound
row_law n r = fails_and (fails_lt r.mask (2 ^ n)) (fails_lt r.constant 2)

entry_law : (m entry : ℕ) → Fails (entry_fits m entry) (2 ^ m ≤ entry)
unfolding entry_fits
entry_law m entry = fails_lt entry (2 ^ m)

all_law : {A : Type 0} (f : A → Bool) {P : A → Type 0} → ((x : A) → Fails (f x) (P x)) → (xs : List A) → Fails (all_of f xs) (Some P xs)
unfolding all_of
all_law {A} f {P} each xs = subst (λ (t : Bool). Fails t (Some P xs)) (same xs) (not_fails (tells_some (λ x. not_tells (each x)) xs))
  where
    swap : (t u v : Bool) → not v ≡ u → not (not t || v) ≡ (t && u)
    swap true u v e = e
    swap false u v e = refl

    same : (xs : List A) → not (any_of (map (λ (x : A). not (f x)) xs)) ≡ all_of f xs
    same [] = refl
    same (x ∷ xs) = swap (f x) (all_of f xs) _ (same xs)

-- some rows as a target
pub rows_law : (n m : ℕ) (rows : List Row) → Fails (target_fits n m (matrix rows)) ((length rows ≡ m → ⊥) ⊎ Some (BrokenRow n) rows)
unfolding target_fits
rows_law n m rows = fails_and (fails_where_not (tells_eq (length rows) m)) (all_law (row_is_sound n) (row_law n) rows)

-- a target as it is brought
bytes_law : (only : Bool) (n m : ℕ) (bytes : List ℕ) → Fails (brought_fits n m (brought only bytes)) (BrokenBytes only n m bytes)
unfolding brought_fits target_fits
bytes_law true n m bytes =
    subst (λ (t : Bool). Fails t (BrokenBytes true n m bytes)) (by (eqb (length bytes) (m + m)) refl)
    (fails_and (fails_where_not (tells_eq (length bytes) (m + m))) (all_law (row_is_sound n) (row_law n) (rows_in n m bytes)))
  where
    by : (t : Bool) → eqb (length bytes) (m + m) ≡ t → (t && all_of (row_is_sound n) (rows_in n m bytes)) ≡ brought_fits n m (brought true bytes)
    by true e = fitting.rows_fit true n m bytes refl (eqb-true (length bytes) (m + m) e)
    by false e = fitting.rows_unfit true n m bytes refl (eqb-false (length bytes) (m + m) e)
bytes_law false n m bytes =
    fails_and (fails_le m 8) (fails_and (fails_where_not (tells_eq (length bytes) (2 ^ n))) (all_law (entry_fits m) (entry_law m) bytes))

pub target_law : (n m : ℕ) (t : Brought) → Fails (brought_fits n m t) (BrokenTarget n m t)
target_law n m t = bytes_law t.of_matrix n m t.bytes

-- a test in a chain of answers that goes on to another
test : (w : Refusal) (a next : Answer) {t : Bool} {cause : Type 0} {rest : ℕ → Type 0} → Fails t cause → GivenExactly (answer_no (and_then a next)) rest
    → GivenExactly (answer_no (and_then (unless t w a) next)) (first (refusal_no w) cause rest)
test w a next x g = chain (λ t. answer_no (and_then (unless t w a) next)) x g

pub done_last : (a : Answer) → and_then a done ≡ a
done_last (Ok _) = refl
done_last (Err w) = refl

-- what is given where nothing is refused has no part in the number
pub given_no : {A : Type 0} (a : Answer) (x : A) → answer_no (and_then a (Ok x)) ≡ answer_no a
given_no (Ok _) x = refl
given_no (Err w) x = refl

then_then : (a b c : Answer) → and_then a (and_then b c) ≡ and_then (and_then a b) c
then_then (Ok _) b c = refl
then_then (Err w) b c = refl

module _ {rest : ℕ → Type 0} (next : Answer) (g : GivenExactly (answer_no next) rest) where
  gate_law : (only : Bool) (line kind a b : ℕ) → GivenExactly (answer_no (and_then (gate_answer only line (gate kind a b)) next)) (gate_table only line kind a b rest)
  unfolding gate_answer
  gate_law only line kind a b =
      let operands = unless (operands_fit line (gate kind a b)) Operand (unless (allowed only (kind_of kind)) NotLinear done) in
      chain_under (λ t. answer_no (and_then (unless t UnknownKind operands) next)) (fails_le kind 6)
      (λ e. test _ _ _ (operand_law line kind a b (leb-true kind 6 e)) (test _ _ _ (only_law only kind) g))

  out_law : (lines line : ℕ) → GivenExactly (answer_no (and_then (out_answer lines line) next)) (first 6 (lines ≤ line) rest)
  unfolding out_answer
  out_law lines line = test _ _ _ (fails_lt line lines) g

  -- the record at a place
  gate_record_law : (only : Bool) (s : List ℕ) (line at : ℕ) → GivenExactly (answer_no (and_then (gate_here only line (drop at s)) next)) (gate_record_table only s line at rest)
  unfolding gate_record
  gate_record_law only s line at =
      let b : (i : ℕ) → get_or s (at + i) 0 ≡ get_or (drop at s) i 0 = λ i. sym (get_or-drop at s i 0) in
      let z : get_or s at 0 ≡ get_or (drop at s) 0 0 = ap (λ (k : ℕ). get_or s k 0) (sym (add-zero at)) ∙ b 0 in
      subst (λ (a : Answer). GivenExactly (answer_no (and_then a next)) (gate_record_table only s line at rest))
      (λ i. gate_record only line (z i) (b 1 i) (b 2 i) (b 3 i) (b 4 i))
      (test _ _ _ (mark_law (get_or s at 0) (get_or s (at + 1) 0) 71 84) (gate_law only line (get_or s (at + 2) 0) (get_or s (at + 3) 0) (get_or s (at + 4) 0)))

  out_record_law : (lines : ℕ) (s : List ℕ) (k at : ℕ) → GivenExactly (answer_no (and_then (out_here lines k (drop at s)) next)) (out_record_table lines s k at rest)
  unfolding out_record
  out_record_law count s k at =
      let b : (i : ℕ) → get_or s (at + i) 0 ≡ get_or (drop at s) i 0 = λ i. sym (get_or-drop at s i 0) in
      let z : get_or s at 0 ≡ get_or (drop at s) 0 0 = ap (λ (k : ℕ). get_or s k 0) (sym (add-zero at)) ∙ b 0 in
      subst (λ (a : Answer). GivenExactly (answer_no (and_then a next)) (out_record_table count s k at rest))
      (λ i. out_record count (z i) (b 1 i) (b 2 i))
      (test _ _ _ (mark_law (get_or s at 0) (get_or s (at + 1) 0) 79 80) (out_law count (get_or s (at + 2) 0)))

-- record by record
module _ (s : List ℕ) (here : ℕ → List ℕ → Answer) (size : ℕ) (one : ℕ → ℕ → (ℕ → Type 0) → ℕ → Type 0)
    (law : (rest : ℕ → Type 0) (next : Answer) → GivenExactly (answer_no next) rest → (k at : ℕ) → GivenExactly (answer_no (and_then (here k (drop at s)) next)) (one k at rest)) where
  records_law : {rest : ℕ → Type 0} (next : Answer) → GivenExactly (answer_no next) rest → (count k at : ℕ)
      → GivenExactly (answer_no (and_then (answers here size k count (drop at s)) next)) (records_table one size k at count rest)
  unfolding answers
  records_law next g zero k at = g
  records_law {rest} next g (suc count) k at =
      let more = answers here size (suc k) count in
      subst (λ (a : Answer). GivenExactly (answer_no a) (one k at (records_table one size (suc k) (at + size) count rest)))
      (then_then (here k (drop at s)) (more (drop (at + size) s)) next
      ∙ ap (λ (l : List ℕ). and_then (and_then (here k (drop at s)) (more l)) next) (sym (drop-drop size at s)))
      (law (records_table one size (suc k) (at + size) count rest) (and_then (more (drop (at + size) s)) next) (records_law next g count (suc k) (at + size)) k at)

module _ {rest : ℕ → Type 0} (next : Answer) (g : GivenExactly (answer_no next) rest) (only : Bool) (s : List ℕ) where
  body_law : (n m g : ℕ) → GivenExactly (answer_no (and_then (body_answer only s n m g) next)) (body_table only s n m g rest)
  unfolding body_answer
  body_law n m k =
      let gates = answers (gate_here only) 5 n k (drop 5 s) in
      let outs = answers (out_here (n + k)) 3 0 m (drop (5 + 5 * k) s) in
      let o = records_law s (out_here (n + k)) 3 (out_record_table (n + k) s) (λ r x y. out_record_law {rest = r} x y (n + k) s) next g m 0 (5 + 5 * k) in
      let q = records_law s (gate_here only) 5 (gate_record_table only s) (λ r x y. gate_record_law {rest = r} x y only s) (and_then outs next) o k n 5 in
      test _ _ _ (range_law n m k) (test _ _ _ (fails_where_not (tells_eq (length s) (5 + 5 * k + 3 * m)))
      (subst (λ (a : Answer). GivenExactly (answer_no a) (records_table (gate_record_table only s) 5 n 5 k (records_table (out_record_table (n + k) s) 3 0 (5 + 5 * k) m rest)))
      (then_then gates outs next) q))

  pub read_law : GivenExactly (answer_no (and_then (reading_answer only s) next)) (reading_table only s rest)
  unfolding reading_answer
  read_law = test _ _ _ (fails_le 5 (length s)) (test _ _ _ (mark_law (get_or s 0 0) (get_or s 1 0) 83 72) (body_law (get_or s 2 0) (get_or s 3 0) (get_or s 4 0)))

pub open_law : (s : List ℕ) (t : Brought) → GivenExactly (answer_no (open_answer s t)) (open_table s t)
unfolding open_answer listing_in
open_law s t =
    let m = records_length out_in 3 (get_or s 3 0) (drop (5 + 5 * get_or s 4 0) s) in
    let last = chain (λ t. answer_no (unless t BadTarget done)) (target_law (get_or s 2 0) (get_or s 3 0) t) none_left in
    subst (λ (k : ℕ). GivenExactly (answer_no (and_then (reading_answer t.of_matrix s) (unless (brought_fits (get_or s 2 0) k t) BadTarget done))) (open_table s t)) (sym m)
    (read_law (unless (brought_fits (get_or s 2 0) (get_or s 3 0) t) BadTarget done) last t.of_matrix s)

-- ---- bytes that read as a circuit: under a matrix they are refused for a nonlinear gate alone,

gate_under : (line p q kind a b : ℕ) → gate_record false line p q kind a b ≡ done → gate_record true line p q kind a b ≡ unless (linear_kind kind) NotLinear done
unfolding gate_record gate_answer
gate_under line p q kind a b h =
    let m = past (is_mark GT p q) Mark h in
    let k = past (leb kind 6) UnknownKind m.1 in
    let o = past (operands_fit line (gate kind a b)) Operand k.1 in
    rw (m.0, k.0, o.0)

-- some gate is nonlinear
abbrev some_nonlinear : List Gate → Bool
some_nonlinear qs = any_of (map (λ (q : Gate). not (linear_kind q.kind)) qs)

gates_under : (line count : ℕ) (s : List ℕ) → answers (gate_here false) 5 line count s ≡ done
    → answers (gate_here true) 5 line count s ≡ unless (not (some_nonlinear (records gate_in 5 count s))) NotLinear done
unfolding answers records
gates_under line zero s h = refl
gates_under line (suc count) s h =
    let t = then_done (gate_here false line s) (answers (gate_here false) 5 (suc line) count (drop 5 s)) h in
    let one = gate_under line (get_or s 0 0) (get_or s 1 0) (get_or s 2 0) (get_or s 3 0) (get_or s 4 0) t.0 in
    let more = gates_under (suc line) count (drop 5 s) t.1 in
    (λ i. and_then (one i) (more i)) ∙ by (linear_kind (get_or s 2 0))
  where
    by : (u : Bool) → let v = some_nonlinear (records gate_in 5 count (drop 5 s)) in and_then (unless u NotLinear done) (unless (not v) NotLinear done) ≡ unless (not (not u || v)) NotLinear done
    by true = refl
    by false = refl

read_under : (only : Bool) (s : List ℕ) → reading_answer false s ≡ done → reading_answer only s ≡ unless (not (only && some_nonlinear (listing_in s).gates)) NotLinear done
unfolding reading_answer body_answer listing_in
read_under false s h = h
read_under true s h =
    let n = get_or s 2 0 in
    let m = get_or s 3 0 in
    let g = get_or s 4 0 in
    let a = past (leb 5 (length s)) Length h in
    let b = past (is_mark SH (get_or s 0 0) (get_or s 1 0)) Mark a.1 in
    let c = past (shaped n m g) Shape b.1 in
    let d = past (eqb (length s) (5 + 5 * g + 3 * m)) Length c.1 in
    let e = then_done (answers (gate_here false) 5 n g (drop 5 s)) (answers (out_here (n + g)) 3 0 m (drop (5 + 5 * g) s)) d.1 in
    let f = gates_under n g (drop 5 s) e.0 in
    rw (a.0, b.0, c.0, d.0) ((λ i. and_then (f i) (e.1 i)) ∙ done_last _)

-- and no open refuses them but for its target
pub opened_law : (s : List ℕ) (c : Listing) → read_stored false s ≡ Ok c → (t : Brought) → GivenExactly (answer_no (open_answer s t)) (opened_table c t)
unfolding open_answer
opened_law s c h t = by (reading_answer false s) refl h
  where
    other : (only : Bool) (qs : List Gate) → Fails (not (only && some_nonlinear qs)) ((only ≡ true) × Some (λ (q : Gate). NonlinearKind q.kind) qs)
    other true qs = not_fails (tells_as (λ x. (refl, x)) (λ x. x.1) (tells_some (λ q. not_tells (linear_law q.kind)) qs))
    other false qs = record { holds = λ e. absurd (true≢false e); not_else = λ e x. true≢false (sym x.0) }

    here : reading_answer false s ≡ done → GivenExactly (answer_no (open_answer s t)) (opened_table (listing_in s) t)
    here e =
        let d = listing_in s in
        let target = unless (brought_fits d.inputs (length d.outs) t) BadTarget done in
        subst (λ (a : Answer). GivenExactly (answer_no (and_then a target)) (opened_table d t)) (sym (read_under t.of_matrix s e))
        (test NotLinear done target (other t.of_matrix d.gates) (chain (λ u. answer_no (unless u BadTarget done)) (target_law d.inputs (length d.outs) t) none_left))

    by : (a : Answer) → reading_answer false s ≡ a → and_then a (Ok (listing_in s)) ≡ Ok c → GivenExactly (answer_no (open_answer s t)) (opened_table c t)
    by (Ok _) e h = let z : listing_in s ≡ c = cc in subst (λ (d : Listing). GivenExactly (answer_no (open_answer s t)) (opened_table d t)) z (here e)
    by (Err w) e h = let z : ◌≡◌ {A = ℕ} 0 1 = cc in absurd (omega arith)

-- ---- the other calls

pub replace_law : (p : Present) (k kind a b : ℕ) → GivenExactly (answer_no (gate_edit_answer p k kind a b)) (replace_table p k kind a b)
unfolding gate_edit_answer
replace_law nothing k kind a b = λ n. (sym, sym)
replace_law (present s) k kind a b =
    let only = is_matrix s.target in
    let line = s.circuit.inputs + k in
    chain (λ t. answer_no (unless t NotThere (gate_answer only line (gate kind a b)))) (fails_lt k (length s.circuit.gates))
    (subst (λ (x : Answer). GivenExactly (answer_no x) (gate_table only line kind a b accepted)) (done_last (gate_answer only line (gate kind a b)))
    (gate_law done none_left only line kind a b))

pub append_law : (p : Present) (kind a b : ℕ) → GivenExactly (answer_no (append_answer p kind a b)) (append_table p kind a b)
unfolding append_answer
append_law nothing kind a b = λ n. (sym, sym)
append_law (present s) kind a b =
    let only = is_matrix s.target in
    let g = length s.circuit.gates in
    let line = s.circuit.inputs + g in
    chain (λ t. answer_no (unless t Full (gate_answer only line (gate kind a b)))) (fails_lt g most_gates)
    (subst (λ (x : Answer). GivenExactly (answer_no x) (gate_table only line kind a b accepted)) (done_last (gate_answer only line (gate kind a b)))
    (gate_law done none_left only line kind a b))

pub sweep_law : (p : Present) → GivenExactly (answer_no (sweep_edit p)) (open_only p)
sweep_law nothing = λ n. (sym, sym)
sweep_law (present s) = none_left

pub point_law : (p : Present) (j line : ℕ) → GivenExactly (answer_no (output_edit_answer p j line)) (point_table p j line)
unfolding output_edit_answer
point_law nothing j line = λ n. (sym, sym)
point_law (present s) j line =
    let lines = s.circuit.inputs + length s.circuit.gates in
    chain (λ t. answer_no (unless t NotThere (out_answer lines line))) (fails_lt j (length s.circuit.outs))
    (subst (λ (x : Answer). GivenExactly (answer_no x) (first 6 (lines ≤ line) accepted)) (done_last (out_answer lines line)) (out_law done none_left lines line))

entries_law : (c : Listing) (t : Target) (i value constant : ℕ) → GivenExactly (answer_no (entry_answer c t i value constant)) (entry_causes c t i value constant)
entries_law c (matrix rows) i value constant =
    chain (λ t. answer_no (unless t NotThere (unless (row_is_sound c.inputs (row value constant)) BadTarget done))) (fails_lt i (length c.outs))
    (chain (λ t. answer_no (unless t BadTarget done)) (row_law c.inputs (row value constant)) none_left)
entries_law c (table entries) i value constant =
    chain (λ t. answer_no (unless t NotThere (unless (entry_fits (length c.outs) value && eqb constant 0) BadTarget done))) (fails_lt i (2 ^ c.inputs))
    (chain (λ t. answer_no (unless t BadTarget done)) (fails_and (entry_law (length c.outs) value) (fails_where_not (tells_eq constant 0))) none_left)

pub change_law : (p : Present) (i value constant : ℕ) → GivenExactly (answer_no (entry_edit_answer p i value constant)) (change_table p i value constant)
unfolding entry_edit_answer
change_law nothing i value constant = λ n. (sym, sym)
change_law (present s) i value constant = entries_law s.circuit s.target i value constant

pub limits_law : (p : Present) → GivenExactly (answer_no (limits_answer p)) (open_only p)
limits_law nothing = λ n. (sym, sym)
limits_law (present s) = none_left

pub report_law : (p : Present) → GivenExactly (answer_no (reported p)) (open_only p)
report_law nothing = λ n. (sym, sym)
report_law (present s) = none_left

-- the room is looked at last (11)
pub room_law : (size room : ℕ) → GivenExactly (answer_no (cond (leb size room) (Ok size) (Err NoRoom))) (first 11 (room < size) accepted)
room_law size room = chain (λ t. answer_no (cond t (Ok size) (Err NoRoom))) (fails_le size room) none_left

-- storing a circuit: its shape first (1), whatever the cause of that is
pub write_law : (c : Circuit) (room : ℕ) {cause : Type 0} → Fails (shaped c.n c.m c.g) cause
    → GivenExactly (answer_no (write_answer c room)) (first 1 cause (first 11 (room < length (stored (listed c))) accepted))
unfolding write_answer
write_law c room x =
    let size = length (stored (listed c)) in
    chain (λ t. answer_no (cond t (cond (leb size room) (Ok size) (Err NoRoom)) (Err Shape))) x (room_law size room)

pub store_law : (p : Present) (room : ℕ) → GivenExactly (answer_no (store_answer p room)) (store_table p room)
unfolding store_answer
store_law nothing room = λ n. (sym, sym)
store_law (present s) room = room_law (length (stored s.circuit)) room

-- an answer, and then the room
pub room_then : (a : Answer) (size room : ℕ) → answer_no (and_then a (unless (leb size room) NoRoom done)) ≡ answer_no (into_room a size room)
room_then (Err w) size room = refl
room_then (Ok _) size room = by (leb size room)
  where
    by : (t : Bool) → answer_no (unless t NoRoom done) ≡ answer_no (cond t (Ok size) (Err NoRoom))
    by true = refl
    by false = refl

pub room_last : (size room : ℕ) → GivenExactly (answer_no (unless (leb size room) NoRoom done)) (first 11 (room < size) accepted)
room_last size room = chain (λ t. answer_no (unless t NoRoom done)) (fails_le size room) none_left

pub row_tells : (n t : ℕ) → Tells (bad_row n t) (BadRow n t)
row_tells n t = tells_or (tells_eq t 0) (tells_le (2 ^ n) t)

pub heavy_tells : (n D t : ℕ) → Tells (too_heavy n D t) (2 ^ D < weight n t)
heavy_tells n D t = tells_lt (2 ^ D) (weight n t)

pub build_law : (n : ℕ) (ts : List ℕ) (D room : ℕ) → GivenExactly (answer_no (build_answer n ts D room)) (build_table n ts D room)
unfolding build_answer refusal
build_law n ts D room =
    let size = length (stored (built n ts D)) in
    subst (λ (no : ℕ). GivenExactly no (build_table n ts D room)) (room_then (refusal n ts D) size room)
    (test _ _ _ (range_law n (length ts) 0) (test _ _ _ (not_fails (tells_some (row_tells n) ts)) (test _ _ _ (fails_le D 15) (test _ _ _ (not_fails (tells_some (heavy_tells n D) ts)) (room_last size room)))))

-- where the lists are equally long: a row is too late
pub late_tells : (n : ℕ) (ar ts ds : List ℕ) → length ds ≡ length ts → Tells (any_of (map (too_late n ar) (rows_of ts ds))) (LateRow n ar ts ds)
late_tells n ar [] ds e = record { holds = λ h. absurd (true≢false (sym h)); not_else = λ h s. absurd (omega (arith, s.1.0)) }
late_tells n ar (t ∷ ts) [] e = absurd (omega arith)
late_tells n ar (t ∷ ts) (d ∷ ds) e = tells_as into out (tells_or (tells_lt (2 ^ d) (load n ar t)) (late_tells n ar ts ds (omega arith)))
  where
    into : (2 ^ d < load n ar t) ⊎ LateRow n ar ts ds → LateRow n ar (t ∷ ts) (d ∷ ds)
    into (inl p) = (0, (omega arith, p))
    into (inr s) = (suc s.0, (omega (arith, s.1.0), s.1.1))

    out : LateRow n ar (t ∷ ts) (d ∷ ds) → (2 ^ d < load n ar t) ⊎ LateRow n ar ts ds
    out (zero, h) = inl h.1
    out (suc i, h) = inr (i, (omega (arith, h.0), h.1))

pub lists_law : (n : ℕ) (ar ts ds : List ℕ) → Fails (lists_fit n ar ts ds) ((length ar ≡ n → ⊥) ⊎ (length ds ≡ length ts → ⊥))
lists_law n ar ts ds = fails_and (fails_where_not (tells_eq (length ar) n)) (fails_where_not (tells_eq (length ds) (length ts)))

pub deep_tells : (ds : List ℕ) → Tells (any_deep ds) (Some (λ (d : ℕ). 15 < d) ds)
deep_tells ds = tells_some (tells_lt 15) ds

pub late_law : (n : ℕ) (ar ts ds : List ℕ) (room : ℕ) → GivenExactly (answer_no (late_answer n ar ts ds room)) (late_table n ar ts ds room)
unfolding late_answer late_refusal
late_law n ar ts ds room =
    let size = length (stored (late_built n ar ts ds)) in
    let next = unless (leb size room) NoRoom done in
    let fourth = unless (not (any_of (map (too_late n ar) (rows_of ts ds)))) TooShallow done in
    let third = unless (not (any_deep ar || any_deep ds)) TooDeep fourth in
    let second = unless (not (any_of (map (bad_row n) ts))) BadTarget third in
    subst (λ (no : ℕ). GivenExactly no (late_table n ar ts ds room)) (room_then (late_refusal n ar ts ds) size room)
    (test _ _ _ (range_law n (length ts) 0)
    (chain_under (λ t. answer_no (and_then (unless t Length second) next)) (lists_law n ar ts ds)
    (λ fit. let equal = eqb-true (length ds) (length ts) (all_true (eqb (length ar) n) fit) in
    test _ _ _ (not_fails (tells_some (row_tells n) ts))
    (test _ _ _ (not_fails (tells_or (deep_tells ar) (deep_tells ds))) (test _ _ _ (not_fails (late_tells n ar ts ds equal)) (room_last size room))))))
  where
    all_true : (x : Bool) {y : Bool} → (x && y) ≡ true → y ≡ true
    all_true true e = e
    all_true false e = absurd (true≢false (sym e))

pub distance_law : (n : ℕ) (ms ds : List ℕ) (t D : ℕ) → GivenExactly (distance_no (answer_of n ms ds t D)) (distance_table n ms ds t D)
unfolding answer_of look_at
distance_law n ms ds t D =
    let r = answered (distance n (base_of ms ds) t D) in
    let ask : Result (Unit {0}) QueryRefusal → ℕ = λ x. distance_no (where_sound x r) in
    let e = tells_or (any_law 16 ds) (tells_lt 15 D) in
    let c = tells_or (tells_or (any_law (2 ^ n) ms) (tells_eq t 0)) (tells_le (2 ^ n) t) in
    let b = tells_or (tells_or (not_tells (fails_where_not (tells_eq (length ms) (length ds)))) (tells_eq (length ms) 0)) (tells_lt 256 (length ms)) in
    let a = tells_or (tells_lt n 1) (tells_lt 8 n) in
    chain_on (λ x. ask (refuse x Inputs (refuse (bad_lists ms ds) Lists (refuse (bad_mask n ms t) Mask (refuse (bad_depth ds D) Depth (Ok tt)))))) a
    (chain_on (λ x. ask (refuse x Lists (refuse (bad_mask n ms t) Mask (refuse (bad_depth ds D) Depth (Ok tt))))) b
    (chain_on (λ x. ask (refuse x Mask (refuse (bad_depth ds D) Depth (Ok tt)))) c
    (chain_on (λ x. ask (refuse x Depth (Ok tt))) e none_left)))
  where
    any_law : (b : ℕ) (xs : List ℕ) → Tells (any_from b xs) (Some (λ (x : ℕ). b ≤ x) xs)
    any_law b xs = subst (λ (t : Bool). Tells t (Some (λ (x : ℕ). b ≤ x) xs)) (same xs) (tells_some (tells_le b) xs)
      where
        same : (xs : List ℕ) → any_of (map (leb b) xs) ≡ any_from b xs
        same [] = refl
        same (x ∷ xs) = ap (λ (t : Bool). leb b x || t) (same xs)

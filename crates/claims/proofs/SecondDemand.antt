-- Demand 2: a circuit passes exactly when it gives the target's outputs on all inputs and keeps its limits; distances are truly the fewest XORs within the
-- depth; the builder follows the rule, and refuses a sound matrix as too shallow exactly when no XOR program of that depth computes it.
-- From request 6 on a matrix reads: matrix with constants where a circuit is checked; rows without constants where one is built, and a sound matrix is then
-- one that no refusal ahead of 10 stops.
use Rattle.std.specs.Prelude.{Option, None, Result, Ok, Err, Some as Just}
use mathlib.Core.Path.{◌≡◌, refl, sym, ap, ap₂, ◌∙◌, subst}
use mathlib.Core.Bool.{Bool, true, false, cond}
use mathlib.Core.Logic.{◌↔◌, ◌⊎◌, inl, inr, ⊎_elim}
use mathlib.Core.List.{List, [], ◌∷◌, ◌++◌, map}
use Prim.Native.Nat.{ℕ, zero, suc, ◌+◌, ◌-◌, ◌%◌, ◌^◌, ◌≤◌, ◌<◌, min}
use native.Mathlib.Nat.{add-zero, eq-or-lt_of_le}
use native.Mathlib.Omega.{arith}
use lib.Bits.{differ}
use borrow.Author.Tests.{ltb-true, eqb-true}
use lib.Dec.{leb, ltb, eqb}
use lib.ListN.{length, get_or, take, drop, replicate, length-map, get_or-map}
use lib.Pow.{pow_mono}
use lib.Seq.{take_at, drop_at, take-append_seam}
use Rattle.circuit.specs.declared.Refusal.{Refusal}
use Rattle.circuit.specs.declared.Refusal.TheVariants.{TooShallow, NoRoom}
use Rattle.circuit.specs.Gate.{bit, row_value_on, Kind, kind_of, truth, word_of}
use Rattle.circuit.specs.Lines.{Listing, gate_at, values, and_depth_step, and_depths, depth_of, and_depth_of, output_on, any_of, lines, listing}
use Rattle.circuit.specs.Rows.{Row, row, no_row, on_row, masks_of, line_row}
use Rattle.circuit.specs.Rules.{Answer, done, shaped, listing_answer}
use Rattle.circuit.proofs.GateLaws.{bit-lt, bit-and, bit_above, differ-sum, bit_word}
use Rattle.circuit.proofs.LineLaws.{greatest_read}
use Rattle.circuit.proofs.RowLaws.{matrix_linear, masks_small, values_small, row_known}
use Rattle.circuit.proofs.RuleLaws.{circuit_fits}
use Rattle.circuit.proofs.Shapes.{both}
use Rattle.stored.specs.Stored.{stored}
use Rattle.stored.specs.Reading.{read_stored}
use Rattle.stored.specs.Writing.{Writing, room_after, into_room}
use Rattle.distance.specs.declared.Refusal.{Refusal as QueryRefusal}
use Rattle.distance.specs.declared.Refusal.TheVariants.{Inputs, Lists, Mask, Depth}
use Rattle.distance.specs.declared.Found.{Found}
use Rattle.distance.specs.Base.{Line, none, Xor, base_of, inputs, arriving, run, weight, Small, Program, Fewest, SetOf, Smallest}
use Rattle.distance.specs.Distance.{gates, never, distance, numbers, first_set, FirstSmallest}
use Rattle.distance.specs.Query.{look_at, answered, answer_of, lines_of, found, found_of, bare_code, found_code, with_lines, distance_no, query_refusal_no, where_sound}
use Rattle.distance.proofs.Sound.{found_some, found_never}
use Rattle.distance.proofs.Theorems as distances
use Rattle.builder.specs.Rule.{Row as BuilderRow, first_pair, rows_of, lowest, sum, taken, xor_gate, greedy_circuit}
use Rattle.builder.specs.Call.{within, built, bad_row, refusal, build_answer, Builds}
use Rattle.builder.specs.Late.{late_built, late_refusal, late_answer, BuildsLate}
use Rattle.builder.specs.Matrix.{Computes, ComputesLate, depth_from}
use Rattle.builder.proofs.Refusals.{Ahead, accepted, looking}
use Rattle.builder.proofs.Promise.{late_inputs, late_outs, late_few, Put}
use Rattle.builder.proofs.Begin.{arriving-length}
use Rattle.builder.proofs.Values.{lines_whole}
use Rattle.builder.proofs.AsLate.{at_once, alike}
use Rattle.builder.proofs.Theorems as building
use Rattle.targets.specs.Target.{Target, matrix, table, is_matrix, wants, row_is_sound, target_fits, Brought, brought, as_brought}
use Rattle.targets.proofs.Fitting.{all_there}
use Rattle.bench.specs.declared.Bench.{Bench}
use Rattle.bench.specs.declared.Place.{Place}
use Rattle.bench.specs.declared.Verdict.TheVariants.{Wrong, Pass}
use Rattle.bench.specs.declared.Report.{Report}
use Rattle.bench.specs.State.{Limits, State, state, present, report_of, Sound, SoundPresent, LimitsFit}
use Rattle.bench.specs.Held.{empty_bench}
use Rattle.bench.specs.Calls.{open_answer, reported, ReportPromise}
use Rattle.bench.specs.Run.{Call, present_after, Runs}
use Rattle.bench.specs.Run.Call.{opening}
use Rattle.bench.proofs.RunLaws.{after-calls, report_after_calls, opens, opens_as}
use Rattle.report.proofs.PassLaws.{Right, FirstWrong, pass_right, right_pass, wrong_first, first_wrong, never_wrong}
use Rattle.claims.proofs.Causes.{Some, Tells, tells_some, passes, silent}
use Rattle.claims.proofs.Tables.{OutOfRange, BadRow, BrokenRow, LateRow}
use Rattle.claims.proofs.Following.{range_law, rows_law, row_tells, heavy_tells, deep_tells, late_tells}

-- ---- What a gate gives: the gate table in plain numbers, and that what is worked out on whole words gives it in each bit.

-- what kind k gives where its operands are 0 0, 0 1, 1 0 and 1 1
abbrev pub truths : ℕ → List ℕ
truths k = truth (kind_of k) 0 0 ∷ truth (kind_of k) 0 1 ∷ truth (kind_of k) 1 0 ∷ truth (kind_of k) 1 1 ∷ []

-- kinds 0 to 6: XOR and XNOR, AND and NAND, OR and NOR, NOT
pub gate_table : map truths (0 ∷ 1 ∷ 2 ∷ 3 ∷ 4 ∷ 5 ∷ 6 ∷ [])
    ≡ (0 ∷ 1 ∷ 1 ∷ 0 ∷ []) ∷ (1 ∷ 0 ∷ 0 ∷ 1 ∷ [])
    ∷ (0 ∷ 0 ∷ 0 ∷ 1 ∷ []) ∷ (1 ∷ 1 ∷ 1 ∷ 0 ∷ [])
    ∷ (0 ∷ 1 ∷ 1 ∷ 1 ∷ []) ∷ (1 ∷ 0 ∷ 0 ∷ 0 ∷ [])
    ∷ (1 ∷ 1 ∷ 0 ∷ 0 ∷ []) ∷ []
gate_table = refl

pub gate_bits : (k : Kind) (i a b : ℕ) → i < 64 → bit i (word_of k a b) ≡ truth k (bit i a) (bit i b)
gate_bits = bit_word

-- ---- What a matrix with constants asks of an output: the inputs that the row's mask has are counted, and the constant is added, modulo 2.

-- how many of the lowest k inputs are in the mask t and are 1 on input value x
abbrev pub ones_in : ℕ → ℕ → ℕ → ℕ
ones_in zero t x = 0
ones_in (suc k) t x = ones_in k t x + min (bit k t) (bit k x)

-- a bit more
one_more : (k b : ℕ) → b < 2 → differ (k % 2) b ≡ (k + b) % 2
one_more k b h = differ-sum (k % 2) b (omega arith) h ∙ omega arith

row-sum : (k t x : ℕ) → row_value_on k t x ≡ ones_in k t x % 2
row-sum zero t x = refl
row-sum (suc k) t x = ap₂ differ (row-sum k t x) (bit-and k t x) ∙ one_more (ones_in k t x) (min (bit k t) (bit k x)) (omega (arith, bit-lt k t))

-- a row on an input value
pub row_on : (r : Row) (x : ℕ) → r.constant < 2 → on_row r x ≡ (ones_in 32 r.mask x + r.constant) % 2
unfolding on_row
row_on r x h = ap (λ (d : ℕ). differ d r.constant) (row-sum 32 r.mask x) ∙ one_more (ones_in 32 r.mask x) r.constant h

pub matrix_wants : (rows : List Row) (x j : ℕ) → (get_or rows j no_row).constant < 2
    → wants (matrix rows) x j ≡ (ones_in 32 (get_or rows j no_row).mask x + (get_or rows j no_row).constant) % 2
matrix_wants rows x j = row_on (get_or rows j no_row) x

-- A matrix that keeps its rule has as many rows as there are outputs, and each row keeps its own:
module _ (n m : ℕ) (rows : List Row) (f : target_fits n m (matrix rows) ≡ true) where
  rows_many : length rows ≡ m
  unfolding target_fits
  rows_many = eqb-true (length rows) m (both (eqb (length rows) m) f).0

  row_keeps : (j : ℕ) → j < length rows → let r = get_or rows j no_row in (ltb r.mask (2 ^ n) ≡ true) × (ltb r.constant 2 ≡ true)
  unfolding target_fits row_is_sound
  row_keeps j h = both (ltb (get_or rows j no_row).mask (2 ^ n)) (all_there no_row (row_is_sound n) rows j (both (eqb (length rows) m) f).1 h)

  -- its mask has none but the n inputs, and its constant is 0 or 1.
  pub masks_fit : (j : ℕ) → j < length rows → (get_or rows j no_row).mask < 2 ^ n
  masks_fit j h = ltb-true (get_or rows j no_row).mask (2 ^ n) (row_keeps j h).0

  pub constants_fit : (j : ℕ) → j < length rows → (get_or rows j no_row).constant < 2
  constants_fit j h = ltb-true (get_or rows j no_row).constant 2 (row_keeps j h).1

-- What a table asks: bit j of the entry.
pub table_wants : (entries : List ℕ) (x j : ℕ) → wants (table entries) x j ≡ bit j (get_or entries x 0)
table_wants entries x j = refl

-- ---- A circuit passes exactly when it gives the target's outputs on all inputs and keeps its limits on gates, depth and AND depth.

module _ (s : State) where
  pub passes_exactly : ((report_of s).verdict ≡ Pass) ↔ Right s
  unfolding report_of
  passes_exactly = (pass_right s, right_pass s)

  -- Wrong carries the smallest input value with a differing output and the smallest such output there.
  pub wrong_exactly : (p : Place) → ((report_of s).verdict ≡ Wrong p) ↔ FirstWrong s p
  unfolding report_of
  wrong_exactly p = (wrong_first s p, first_wrong s p)

  -- That is the report which is given, after any calls, where this is present.
  pub report_given : {b : Bench} {calls : List Call} → Runs empty_bench calls b → present_after calls ≡ present s → (r : Result Report Refusal) → ReportPromise b r → r ≡ Ok (report_of s)
  report_given run e r h = report_after_calls run h ∙ ap reported e

-- ---- Under a matrix every line is linear.

-- the value of line i of a circuit on input value x
abbrev pub line_value_on : Listing → ℕ → ℕ → ℕ
line_value_on c x i = get_or (values x c.inputs (gate_at c) (length c.gates)) i 0

-- In a state that keeps every rule
module _ (s : State) (ok : Sound s) (only : is_matrix s.target ≡ true) where
  -- a line's value on every input is its row on it: its mask is the one that a hint counts by (`masks_of`), its constant the value on input value 0.
  pub lines_linear : (x i : ℕ) → line_value_on s.circuit x i ≡ on_row (line_row s.circuit i) x
  lines_linear = matrix_linear s.circuit (ap (λ (t : Bool). listing_answer t s.circuit) (sym only) ∙ ok.circuit)

  -- In numbers: it is the sum modulo 2 of the inputs that the mask has, plus the constant.
  pub lines_summed : (x i : ℕ) → line_value_on s.circuit x i ≡ (ones_in 32 (get_or (masks_of s.circuit) i 0) x + line_value_on s.circuit 0 i) % 2
  lines_summed x i =
      let c = s.circuit in
      lines_linear x i ∙ row_on (line_row c i) x (values_small 0 c.inputs (gate_at c) (length c.gates) i)

-- So where the target is a matrix
module _ (s : State) (ok : Sound s) (rows : List Row) (given : s.target ≡ matrix rows) where
  -- output j is right on every input exactly when the row of its line, mask and constant, is the target's row;
  pub right_by_rows : (j : ℕ) → j < length s.circuit.outs
      → ((x : ℕ) → x < 2 ^ s.circuit.inputs → output_on s.circuit x j ≡ wants s.target x j) ↔ (line_row s.circuit (get_or s.circuit.outs j 0) ≡ get_or rows j no_row)
  right_by_rows j h =
      let c = s.circuit in
      let n = c.inputs in
      let m = length c.outs in
      let g = length c.gates in
      let i = get_or c.outs j 0 in
      let few = (circuit_fits (is_matrix s.target) c ok.circuit).shape.n_most in
      let fit = ap (target_fits n m) (sym given) ∙ ok.target in
      let there : j < length rows = omega (arith, rows_many n m rows fit) in
      let line : (x : ℕ) → output_on c x j ≡ on_row (line_row c i) x = λ x. lines_linear s ok (ap is_matrix given) x i in
      let want : (x : ℕ) → wants s.target x j ≡ on_row (get_or rows j no_row) x = λ x. ap (λ (t : Target). wants t x j) given in (
        λ right. row_known n (omega (arith, few)) (line_row c i) (get_or rows j no_row) (masks_small n (gate_at c) g i) (masks_fit n m rows fit j there)
            (values_small 0 n (gate_at c) g i) (constants_fit n m rows fit j there) (λ x hx. sym (line x) ∙ right x hx ∙ want x),
        λ e x hx. line x ∙ ap (λ (r : Row). on_row r x) e ∙ sym (want x),
      )

  -- and the verdict is not Wrong exactly when that is so of every output.
  pub not_wrong_by_rows : ((p : Place) → (report_of s).verdict ≡ Wrong p → ⊥)
      ↔ ((j : ℕ) → j < length s.circuit.outs → line_row s.circuit (get_or s.circuit.outs j 0) ≡ get_or rows j no_row)
  not_wrong_by_rows = (
    λ no j h. (right_by_rows j h).0 (λ x hx. never_wrong s (λ p w. no p ((wrong_exactly s p).1 w)) x j hx h),
    λ same p e. let w = (wrong_exactly s p).0 e in w.wrong ((right_by_rows p.output w.named).1 (same p.output w.named) p.input w.inside),
  )

-- What is present after any calls is such a state.
pub present_sound : {b : Bench} {calls : List Call} → Runs empty_bench calls b → (s : State) → present_after calls ≡ present s → Sound s
present_sound run s e = subst SoundPresent e (after-calls run).sound

-- ---- Distances are truly the fewest XORs within the depth.

-- A base of lines whose masks are below 2^n, a mask t that is not 0, and a depth D.
module _ (n : ℕ) (ls : List Line) (t D : ℕ) (small : Small n ls) (some : t ≡ 0 → ⊥) where
  -- The distance is the fewest XOR gates, in any XOR program whose inputs are those lines at those depths, that produce t at depth D or less;
  pub distance_fewest : (g : ℕ) → (distance n ls t D ≡ gates g) ↔ Fewest ls t D g
  distance_fewest = distances.distance_is_fewest n ls t D small some

  -- or there is none.
  pub distance_none : (distance n ls t D ≡ never) ↔ ((h : ℕ) → Program ls h t D → ⊥)
  distance_none = distances.none_is_no_program n ls t D small some

  -- This equals the smallest size, less one, of a set of base lines whose masks sum to t and whose sum of 2^depth is at most 2^D.
  pub distance_smallest_set : (g : ℕ) → (distance n ls t D ≡ gates g) ↔ Smallest ls t (2 ^ D) (suc g)
  distance_smallest_set = distances.distance_is_smallest_set n ls t D small some

  pub distance_no-set : (distance n ls t D ≡ never) ↔ ((k : ℕ) → SetOf ls k t (2 ^ D) → ⊥)
  distance_no-set = distances.none_is_no_set n ls t D small some

-- the lines that stand beside a distance
abbrev pub lines_beside : Found → List ℕ
lines_beside f = take f.count f.lines

-- a query answers a distance of g gates
abbrev pub Gives : Result (Option Found) QueryRefusal → ℕ → Type 0
Gives r g = (f : Found) × (r ≡ Ok (Just f)) × (f.gates ≡ g)

-- What a query answers, where it is not refused.
module _ (n : ℕ) (ms ds : List ℕ) (t D : ℕ) (r : Result (Option Found) QueryRefusal) (meets : r ≡ found_of n ms ds t D) (fine : distance_no r ≡ 0) where
  looks : look_at n ms ds t D ≡ Ok tt
  unfolding answer_of
  looks = by (look_at n ms ds t D) (sym (ap distance_no meets) ∙ fine)
    where
      numbered : (w : QueryRefusal) → query_refusal_no w ≡ 0 → ⊥
      numbered Inputs e = omega arith
      numbered Lists e = omega arith
      numbered Mask e = omega arith
      numbered Depth e = omega arith

      by : (x : Result (Unit {0}) QueryRefusal) → distance_no (found (where_sound x (answered (distance n (base_of ms ds) t D))) (lines_of n ms ds t D)) ≡ 0 → x ≡ Ok tt
      by (Ok u) e = refl
      by (Err w) e = absurd (numbered w e)

  -- what is found where the answer is this
  with_answer : {x : Option ℕ} → answer_of n ms ds t D ≡ Ok x → r ≡ Ok (with_lines x (lines_of n ms ds t D))
  with_answer e = meets ∙ ap (λ (a : Result (Option ℕ) QueryRefusal). found a (lines_of n ms ds t D)) e

  module _ (f : Found) (e : r ≡ Ok (Just f)) where
    answers : answer_of n ms ds t D ≡ Ok (Just f.gates)
    answers = (found_some n ms ds t D f (sym meets ∙ e)).0

    beside : lines_beside f ≡ lines_of n ms ds t D
    beside =
        let q = found_some n ms ds t D f (sym meets ∙ e) in
        ap₂ (λ (k : ℕ) (xs : List ℕ). take k xs) q.2 q.1 ∙ take-append_seam (lines_of n ms ds t D) (replicate (8 - length (lines_of n ms ds t D)) 0)

  pub query_fewest : (g : ℕ) → Gives r g ↔ Fewest (base_of ms ds) t D g
  query_fewest g =
      let q = distances.query_gates n ms ds t D looks g in
      (λ x. q.0 (answers x.0 x.1 ∙ ap (λ (k : ℕ). Ok (Just k)) x.2), λ f. let e = with_answer (q.1 f) in (_, e, refl))

  pub query_none : (r ≡ Ok None) ↔ ((h : ℕ) → Program (base_of ms ds) h t D → ⊥)
  query_none = let q = distances.query_never n ms ds t D looks in (λ e. q.0 (found_never n ms ds t D (sym meets ∙ e)), λ f. with_answer (q.1 f))

  module _ (f : Found) (e : r ≡ Ok (Just f)) where
    -- The lines beside a distance are a set that makes the target within the depth, one more than the gates; no set is smaller, and no other of its
    -- size comes before it.
    pub query_lines : FirstSmallest (base_of ms ds) t (2 ^ D) (suc f.gates) (lines_beside f)
    query_lines = subst (FirstSmallest (base_of ms ds) t (2 ^ D) (suc f.gates)) (sym (beside f e)) (distances.query_lines n ms ds t D looks f.gates (answers f e))

    -- By themselves they make the target within the depth, by as many gates.
    pub query_lines_make : Program (map (λ (i : ℕ). get_or (base_of ms ds) i none) (lines_beside f)) f.gates t D
    query_lines_make =
        subst (λ (xs : List ℕ). Program (map (λ (i : ℕ). get_or (base_of ms ds) i none) xs) f.gates t D) (sym (beside f e))
        (distances.query_lines_make n ms ds t D looks f.gates (answers f e))

    -- So they are those: there is one such list of numbers.
    pub query_lines_only : (xs : List ℕ) → FirstSmallest (base_of ms ds) t (2 ^ D) (suc f.gates) xs → xs ≡ lines_beside f
    query_lines_only xs s = distances.query_lines_only n ms ds t D f.gates xs (lines_beside f) s query_lines

  -- Where there is no distance there are none.
  pub query_no_lines : r ≡ Ok None → (lines_of n ms ds t D ≡ []) × (found_code r ≡ bare_code 99)
  query_no_lines e = (distances.query_no_lines n ms ds t D looks (found_never n ms ds t D (sym meets ∙ e)), ap found_code e)

-- ---- The first pair that the rule takes for a row one gate away is the query's set of two lines: the same numbers.
pub first_pair_is_set : (ls : List Line) (r : BuilderRow) → distance 8 ls r.mask r.limit ≡ gates 1
    → numbers 0 ls (first_set 2 r.mask (2 ^ r.limit) ls) ≡ (first_pair ls r).a ∷ (first_pair ls r).b ∷ []
first_pair_is_set = building.first_pair_is_set

-- ---- The builder, with late signals: each input has an arrival depth, each row a depth limit.

-- what a program built for a matrix, from inputs with these arrivals and within these limits, is
pub record LateRight (n : ℕ) (ar ts ds : List ℕ) (c : Listing) : Type 0 where
  -- it has the matrix's inputs and outputs,
  pub inputs_are : c.inputs ≡ n
  pub outputs_are : length c.outs ≡ length ts
  -- XOR gates only,
  pub only_xor : (k : ℕ) → (gate_at c k).kind ≡ 0
  -- computes the matrix on all inputs,
  pub computes : (x j : ℕ) → j < length ts → output_on c x j ≡ ones_in n (get_or ts j 0) x % 2
  -- has each output at its row's limit or less, counted from the arrivals, and AND depth 0,
  pub in_time : (j : ℕ) → j < length ts → depth_from ar c j ≤ get_or ds j 0
  pub linear : and_depth_of c ≡ 0
  -- and has at most the sum over rows of (weight - 1) gates, 224 at most.
  pub few : length c.gates ≤ sum (map (λ (t : ℕ). weight n t - 1) ts)
  pub fits : length c.gates ≤ 224

module _ (n : ℕ) (ar ts ds : List ℕ) where
  -- The builder follows the published greedy rule: its gates are those that the rule takes, and each output names its row's lowest line within the row's limit.
  pub late_follows_rule : late_built n ar ts ds ≡ listing n (map xor_gate (taken (arriving n ar) (rows_of ts ds))) (map (lowest (run (arriving n ar) (taken (arriving n ar) (rows_of ts ds)))) (rows_of ts ds))
  unfolding late_built greedy_circuit
  late_follows_rule = refl

  no_and_depth : and_depth_of (late_built n ar ts ds) ≡ 0
  unfolding late_built greedy_circuit
  no_and_depth =
      let first = arriving n ar in
      let gs = taken first (rows_of ts ds) in
      let c = greedy_circuit n first (rows_of ts ds) in
      let e = ap (λ (l : List ℕ). lines and_depth_step 0 l (gate_at c) (length (map xor_gate gs))) (flat n) ∙ lines_whole (λ (l : Line). 0) and_depth_step 0 refl (λ k g x y. refl) first gs in
      omega (arith, greatest_read (and_depths n (gate_at c) (length c.gates)) 0 (λ i. omega (arith, ap (λ (l : List ℕ). get_or l i 0) e, zero_at (run first gs) i)) c.outs)
    where
      zero_at : (ls : List Line) (i : ℕ) → ◌≡◌ {A = ℕ} (get_or (map (λ (l : Line). 0) ls) i 0) 0
      zero_at [] i = refl
      zero_at (l ∷ ls) zero = refl
      zero_at (l ∷ ls) (suc i) = zero_at ls i

      flat : (n : ℕ) → replicate {A = ℕ} n 0 ≡ map (λ (l : Line). 0) (arriving n ar)
      flat n = ap (λ (k : ℕ). replicate {A = ℕ} k 0) (sym (arriving-length n ar)) ∙ level (arriving n ar)
        where
          level : (ls : List Line) → replicate {A = ℕ} (length ls) 0 ≡ map (λ (l : Line). 0) ls
          level [] = refl
          level (l ∷ ls) = ap (λ (xs : List ℕ). 0 ∷ xs) (level ls)

  pub late_right : late_refusal n ar ts ds ≡ done → LateRight n ar ts ds (late_built n ar ts ds)
  late_right ok =
      record {
        inputs_are = late_inputs n ar ts ds;
        outputs_are = late_outs n ar ts ds (sym (accepted n ar ts ds ok).ahead.limits);
        only_xor = building.late_only_xor n ar ts ds ok;
        computes = λ x j h. building.late_matrix n ar ts ds ok x j h ∙ row-sum n (get_or ts j 0) x;
        in_time = building.late_within n ar ts ds ok;
        linear = no_and_depth;
        few = building.late_few_gates n ar ts ds ok;
        fits = late_few n ar ts ds;
      }

-- ---- The builder of 01: all inputs are there at depth 0, and D is the limit of every row.

-- It is that case of the call above: arrivals 0, and D for each row.
module _ (n : ℕ) (ts : List ℕ) (D : ℕ) (room : List ℕ) (r : Writing) (out : List ℕ) where
  pub old_is_late : Builds n ts D room r out ↔ BuildsLate n (at_once n) ts (alike D ts) room r out
  unfolding build_answer late_answer
  old_is_late =
      let e = building.as_late n ts D in
      let a : build_answer n ts D (length room) ≡ late_answer n (at_once n) ts (alike D ts) (length room) = λ i. into_room (e.0 i) (length (stored (e.1 i))) (length room) in
      let b : room_after (build_answer n ts D (length room)) (stored (built n ts D)) room ≡ room_after (late_answer n (at_once n) ts (alike D ts) (length room)) (stored (late_built n (at_once n) ts (alike D ts))) room = λ i. room_after (a i) (stored (e.1 i)) room in (
        λ h. record { answer = h.answer ∙ a; bytes = h.bytes ∙ b },
        λ h. record { answer = h.answer ∙ sym a; bytes = h.bytes ∙ sym b },
      )

-- what a program built for a matrix within depth D is
pub record BuiltRight (n : ℕ) (ts : List ℕ) (D : ℕ) (c : Listing) : Type 0 where
  -- it has the matrix's inputs and outputs,
  pub inputs_are : c.inputs ≡ n
  pub outputs_are : length c.outs ≡ length ts
  -- XOR gates only,
  pub only_xor : (k : ℕ) → (gate_at c k).kind ≡ 0
  -- computes the matrix on all inputs,
  pub computes : (x j : ℕ) → j < length ts → output_on c x j ≡ ones_in n (get_or ts j 0) x % 2
  -- has depth at most D and AND depth 0,
  pub shallow : depth_of c ≤ D
  pub linear : and_depth_of c ≡ 0
  -- and has at most the sum over rows of (weight - 1) gates, 224 at most.
  pub few : length c.gates ≤ sum (map (λ (t : ℕ). weight n t - 1) ts)
  pub fits : length c.gates ≤ 224

module _ (n : ℕ) (ts : List ℕ) (D : ℕ) where
  -- The builder follows the published greedy rule: its gates are those that the rule takes, and each output names its row's lowest line within D.
  pub follows_rule : built n ts D ≡ listing n (map xor_gate (taken (inputs n) (within D ts))) (map (lowest (run (inputs n) (taken (inputs n) (within D ts)))) (within D ts))
  unfolding built greedy_circuit
  follows_rule = refl

  pub built_right : refusal n ts D ≡ done → BuiltRight n ts D (built n ts D)
  built_right ok =
      let e = building.as_late n ts D in
      let r = subst (LateRight n (at_once n) ts (alike D ts)) (sym e.1) (late_right n (at_once n) ts (alike D ts) (sym e.0 ∙ ok)) in
      record {
        inputs_are = r.inputs_are;
        outputs_are = r.outputs_are;
        only_xor = r.only_xor;
        computes = r.computes;
        shallow = building.depth_within n ts D ok;
        linear = r.linear;
        few = r.few;
        fits = r.fits;
      }

-- ---- What a build writes, where it writes: the stored bytes of that program first in the lent room; the rest stays.

-- what each build promises of the room, by its answer ahead of the room and by its circuit
builds_put : {n : ℕ} {ts : List ℕ} {D : ℕ} {room : List ℕ} {r : Writing} {out : List ℕ} → Builds n ts D room r out → Put (refusal n ts D) (built n ts D) room r out
unfolding build_answer
builds_put h = record { answer = h.answer; bytes = h.bytes }

late_put : {n : ℕ} {ar ts ds room : List ℕ} {r : Writing} {out : List ℕ} → BuildsLate n ar ts ds room r out → Put (late_refusal n ar ts ds) (late_built n ar ts ds) room r out
unfolding late_answer
late_put h = record { answer = h.answer; bytes = h.bytes }

module _ (a : Answer) (c : Listing) (room : List ℕ) where
  abbrev bytes : List ℕ
  bytes = stored c

  module _ (k : ℕ) (out : List ℕ) (h : Put a c room (Ok k) out) where
    nothing_refused : a ≡ done
    nothing_refused = by a h.answer
      where
        by : (a : Answer) → Ok k ≡ into_room a (length bytes) (length room) → a ≡ done
        by (Ok _) e = refl
        by (Err w) e = let z : ◌≡◌ {A = ℕ} 0 1 = cc in absurd (omega arith)

    size_is : length bytes ≡ k
    size_is = by (leb (length bytes) (length room)) (h.answer ∙ ap (λ (a : Answer). into_room a (length bytes) (length room)) nothing_refused)
      where
        by : (t : Bool) → Ok k ≡ cond t (Ok (length bytes)) (Err NoRoom) → length bytes ≡ k
        by true e = cc
        by false e = let z : ◌≡◌ {A = ℕ} 0 1 = cc in absurd (omega arith)

    room_is : out ≡ bytes ++ drop (length bytes) room
    room_is = h.bytes ∙ sym (ap (λ (a : Writing). room_after a bytes room) h.answer)

    writes : (take k out ≡ bytes) × (drop k out ≡ drop k room)
    writes = (
      ap (take k) room_is ∙ take_at bytes (drop (length bytes) room) k size_is,
      ap (drop k) room_is ∙ drop_at bytes (drop (length bytes) room) k size_is ∙ ap (λ (j : ℕ). drop j room) size_is,
    )

  -- 10 is answered where it is the answer ahead of the room
  answered_so : (r : Writing) (out : List ℕ) → Put a c room r out → (r ≡ Err TooShallow) ↔ (a ≡ Err TooShallow)
  answered_so r out h = (λ e. by a (sym h.answer ∙ e), λ e. h.answer ∙ ap (λ (a : Answer). into_room a (length bytes) (length room)) e)
    where
      written : (t : Bool) (size : ℕ) → cond t (Ok size) (Err NoRoom) ≡ Err TooShallow → ⊥
      written true size e = let z : ◌≡◌ {A = ℕ} 0 1 = cc in omega arith
      written false size e = let z : ◌≡◌ {A = ℕ} 0 1 = cc in omega arith

      by : (a : Answer) → into_room a (length bytes) (length room) ≡ Err TooShallow → a ≡ Err TooShallow
      by (Ok _) e = absurd (written (leb (length bytes) (length room)) (length bytes) e)
      by (Err w) e = let z : w ≡ TooShallow = cc in ap Err z

module _ (n : ℕ) (ar ts ds room : List ℕ) (k : ℕ) (out : List ℕ) (h : BuildsLate n ar ts ds room (Ok k) out) where
  pub late_writes : (take k out ≡ stored (late_built n ar ts ds)) × (drop k out ≡ drop k room)
  late_writes = writes (late_refusal n ar ts ds) (late_built n ar ts ds) room k out (late_put h)

  -- They read back as the program, which computes the matrix within the limits.
  pub late_computes : (read_stored true (take k out) ≡ Ok (late_built n ar ts ds)) × LateRight n ar ts ds (late_built n ar ts ds)
  late_computes =
      let ok = nothing_refused (late_refusal n ar ts ds) (late_built n ar ts ds) room k out (late_put h) in
      (ap (read_stored true) late_writes.0 ∙ building.late_reads_back n ar ts ds ok, late_right n ar ts ds ok)

module _ (n : ℕ) (ts : List ℕ) (D : ℕ) (room : List ℕ) (k : ℕ) (out : List ℕ) (h : Builds n ts D room (Ok k) out) where
  pub build_writes : (take k out ≡ stored (built n ts D)) × (drop k out ≡ drop k room)
  build_writes = writes (refusal n ts D) (built n ts D) room k out (builds_put h)

  -- They read back as the program, which computes the matrix within the depth.
  pub build_computes : (read_stored true (take k out) ≡ Ok (built n ts D)) × BuiltRight n ts D (built n ts D)
  build_computes =
      let ok = nothing_refused (refusal n ts D) (built n ts D) room k out (builds_put h) in
      (ap (read_stored true) build_writes.0 ∙ building.reads-back n ts D ok, built_right n ts D ok)

-- ---- Too shallow.

-- a list of causes that is there where a test says so
told : {t : Bool} {P : Type 0} → Tells t P → P → t ≡ true
told {t = true} x p = refl
told {t = false} x p = absurd (x.not_else refl p)

-- A sound matrix: n and the number of rows in range, no row that is 0 or reaches 2^n; an arrival for each input and a limit for each row, each at most 15.
module _ (n : ℕ) (ar ts ds : List ℕ) (range : OutOfRange n (length ts) 0 → ⊥) (rows : Some (BadRow n) ts → ⊥)
    (arrivals : length ar ≡ n) (limits : length ds ≡ length ts) (early : Some (λ (a : ℕ). 15 < a) ar → ⊥) (depths : Some (λ (d : ℕ). 15 < d) ds → ⊥)
    (room : List ℕ) (r : Writing) (out : List ℕ) (h : BuildsLate n ar ts ds room r out) where
  ahead : Ahead n ar ts ds
  ahead =
      record {
        shape = passes (range_law n (length ts) 0) range;
        arrivals = arrivals;
        limits = limits;
        rows = silent (tells_some (row_tells n) ts) rows;
        early = silent (deep_tells ar) early;
        shallow = silent (deep_tells ds) depths;
      }

  so : (r ≡ Err TooShallow) ↔ (late_refusal n ar ts ds ≡ Err TooShallow)
  so = answered_so (late_refusal n ar ts ds) (late_built n ar ts ds) room r out (late_put h)

  -- It is refused as too shallow exactly when no XOR program over the inputs at those arrivals makes each row within its own limit,
  pub too_shallow_no_late_program : (r ≡ Err TooShallow) ↔ ((gs : List Xor) → ComputesLate n ar ts ds gs → ⊥)
  too_shallow_no_late_program =
      let q = building.too_shallow_is_no_late_program n ar ts ds ahead in
      (λ e. q.0 (so.0 e), λ f. so.1 (q.1 f))

  -- which is the same as a row's sum of 2^arrival over its inputs exceeding 2^limit.
  pub too_shallow_late : (r ≡ Err TooShallow) ↔ LateRow n ar ts ds
  too_shallow_late =
      let q = building.too_shallow_is_late n ar ts ds ahead in
      let t = late_tells n ar ts ds limits in
      (λ e. t.holds (q.0 (so.0 e)), λ s. so.1 (q.1 (told t s)))

-- The same where all inputs are there at depth 0, and D is at most 15.
module _ (n : ℕ) (ts : List ℕ) (D : ℕ) (range : OutOfRange n (length ts) 0 → ⊥) (rows : Some (BadRow n) ts → ⊥) (depth : D ≤ 15)
    (room : List ℕ) (r : Writing) (out : List ℕ) (h : Builds n ts D room r out) where
  shape_fits : shaped n (length ts) 0 ≡ true
  shape_fits = passes (range_law n (length ts) 0) range

  rows_fit : any_of (map (bad_row n) ts) ≡ false
  rows_fit = silent (tells_some (row_tells n) ts) rows

  refused_so : (r ≡ Err TooShallow) ↔ (refusal n ts D ≡ Err TooShallow)
  refused_so = answered_so (refusal n ts D) (built n ts D) room r out (builds_put h)

  -- It is refused as too shallow exactly when no XOR program of that depth computes it,
  pub too_shallow_no_program : (r ≡ Err TooShallow) ↔ ((gs : List Xor) → Computes n ts D gs → ⊥)
  too_shallow_no_program =
      let q = building.too_shallow_is_no_program n ts D shape_fits rows_fit depth in
      (λ e. q.0 (refused_so.0 e), λ f. refused_so.1 (q.1 f))

  -- which is the same as a row's weight exceeding 2^D.
  pub too_shallow_heavy : (r ≡ Err TooShallow) ↔ Some (λ (t : ℕ). 2 ^ D < weight n t) ts
  too_shallow_heavy =
      let q = building.too_shallow_is_heavy n ts D shape_fits rows_fit depth in
      let t = tells_some (heavy_tells n D) ts in
      (λ e. t.holds (q.0 (refused_so.0 e)), λ s. refused_so.1 (q.1 (told t s)))

-- ---- The builder and the bench agree: what was built, opened with its matrix, passes wherever the limits allow its gates and depth.

-- Rows without constants, as the builder takes them, are rows whose constant is 0;
abbrev pub as_rows : List ℕ → List Row
as_rows ts = map (λ (t : ℕ). row t 0) ts

-- they are brought to an open as the masks, and then a 0 for each.
abbrev pub brought_rows : List ℕ → Brought
brought_rows ts = brought true (ts ++ replicate (length ts) 0)

rows_brought : (ts : List ℕ) → as_brought (matrix (as_rows ts)) ≡ brought_rows ts
rows_brought ts = ap (brought true) (ap₂ ◌++◌ (masks ts) (constants ts))
  where
    masks : (ts : List ℕ) → map (λ (r : Row). r.mask) (as_rows ts) ≡ ts
    masks [] = refl
    masks (t ∷ ts) = ap (λ (l : List ℕ). t ∷ l) (masks ts)

    constants : (ts : List ℕ) → map (λ (r : Row). r.constant) (as_rows ts) ≡ replicate (length ts) 0
    constants [] = refl
    constants (t ∷ ts) = ap (λ (l : List ℕ). 0 ∷ l) (constants ts)

-- a row without a constant that is no bad one for the builder is none for a target
broken_bad : (n : ℕ) (ts : List ℕ) → Some (BrokenRow n) (as_rows ts) → Some (BadRow n) ts
broken_bad n [] s = s
broken_bad n (t ∷ ts) (inl (inl h)) = inl (inr h)
broken_bad n (t ∷ ts) (inl (inr h)) = absurd (omega arith)
broken_bad n (t ∷ ts) (inr s) = inr (broken_bad n ts s)

ones_stop : (k n t x : ℕ) → n ≤ k → t < 2 ^ n → ones_in k t x ≡ ones_in n t x
ones_stop zero n t x h b = ap (λ (j : ℕ). ones_in j t x) (let z : 0 ≡ n = omega arith in z)
ones_stop (suc k) n t x h b =
    ⊎_elim
    (λ e. ap (λ (j : ℕ). ones_in j t x) (sym e))
    (λ l. let p : n ≤ k = omega arith in let z = bit_above k t (omega (arith, pow_mono p)) in let q = ones_stop k n t x p b in omega (arith, q, z))
    (eq-or-lt_of_le {n = n} {m = suc k} h)

module _ (n : ℕ) (ar ts ds : List ℕ) (ok : late_refusal n ar ts ds ≡ done) (l : Limits) (small : LimitsFit l) where
  abbrev late_opened : State
  late_opened = state (late_built n ar ts ds) (matrix (as_rows ts)) l

  ahead_of : Ahead n ar ts ds
  ahead_of = (accepted n ar ts ds ok).ahead

  outs_are : length (late_built n ar ts ds).outs ≡ length ts
  outs_are = late_outs n ar ts ds (sym ahead_of.limits)

  sound_opened : Sound late_opened
  sound_opened =
      record {
        circuit = building.late_sound n ar ts ds ok;
        target = passes (rows_law (late_built n ar ts ds).inputs (length (late_built n ar ts ds).outs) (as_rows ts)) unbroken;
        limits = small;
      }
    where
      unbroken : (length (as_rows ts) ≡ length (late_built n ar ts ds).outs → ⊥) ⊎ Some (BrokenRow (late_built n ar ts ds).inputs) (as_rows ts) → ⊥
      unbroken (inl e) = e (length-map ts (λ (t : ℕ). row t 0) ∙ sym outs_are)
      unbroken (inr s) =
          (tells_some (row_tells n) ts).not_else ahead_of.rows (broken_bad n ts (subst (λ (k : ℕ). Some (BrokenRow k) (as_rows ts)) (late_inputs n ar ts ds) s))

  pub late_opens : open_answer (stored (late_built n ar ts ds)) (brought_rows ts) ≡ done
  late_opens = ap (open_answer (stored (late_built n ar ts ds))) (sym (rows_brought ts)) ∙ opens late_opened sound_opened

  pub late_passes : length (late_built n ar ts ds).gates ≤ l.gates → depth_of (late_built n ar ts ds) ≤ l.depth
      → {b : Bench} → Runs empty_bench (opening (stored (late_built n ar ts ds)) (brought_rows ts) l ∷ []) b → (r : Result Report Refusal) → ReportPromise b r
      → (r ≡ Ok (report_of late_opened)) × ((report_of late_opened).verdict ≡ Pass)
  late_passes g d run r h = (report_given late_opened run now r h, (passes_exactly late_opened).1 right)
    where
      now : present_after (opening (stored (late_built n ar ts ds)) (brought_rows ts) l ∷ []) ≡ present late_opened
      now = ap (λ (t : Brought). present_after (opening (stored (late_built n ar ts ds)) t l ∷ [])) (sym (rows_brought ts)) ∙ opens_as late_opened sound_opened

      right : Right late_opened
      right =
          let f = (looking n ar ts ds ahead_of).fit in
          let b = late_right n ar ts ds ok in
          record {
            equal = λ x j hx hj.
                let t = get_or ts j 0 in
                b.computes x j (subst (λ (m : ℕ). j < m) outs_are hj)
                ∙ ap (λ (k : ℕ). k % 2) (sym (add-zero _ ∙ ones_stop 32 n t x (omega (arith, f.inputs)) (f.below j)))
                ∙ sym (ap (λ (r : Row). on_row r x) (get_or-map (λ (t : ℕ). row t 0) ts j 0) ∙ row_on (row t 0) x (omega arith));
            gates = g;
            depth = d;
            and_depth = omega (arith, b.linear);
          }

module _ (n : ℕ) (ts : List ℕ) (D : ℕ) (ok : refusal n ts D ≡ done) (l : Limits) (small : LimitsFit l) where
  abbrev opened : State
  opened = state (built n ts D) (matrix (as_rows ts)) l

  taken_late : late_refusal n (at_once n) ts (alike D ts) ≡ done
  taken_late = sym (building.as_late n ts D).0 ∙ ok

  pub built_opens : open_answer (stored (built n ts D)) (brought_rows ts) ≡ done
  built_opens = ap (λ (c : Listing). open_answer (stored c) (brought_rows ts)) (building.as_late n ts D).1 ∙ late_opens n (at_once n) ts (alike D ts) taken_late l small

  pub built_passes : length (built n ts D).gates ≤ l.gates → depth_of (built n ts D) ≤ l.depth
      → {b : Bench} → Runs empty_bench (opening (stored (built n ts D)) (brought_rows ts) l ∷ []) b → (r : Result Report Refusal) → ReportPromise b r
      → (r ≡ Ok (report_of opened)) × ((report_of opened).verdict ≡ Pass)
  built_passes g d {b} run r h =
      let e = (building.as_late n ts D).1 in
      subst (λ (c : Listing). (r ≡ Ok (report_of (state c (matrix (as_rows ts)) l))) × ((report_of (state c (matrix (as_rows ts)) l)).verdict ≡ Pass)) (sym e)
      (late_passes n (at_once n) ts (alike D ts) taken_late l small
      (subst (λ (c : Listing). length c.gates ≤ l.gates) e g)
      (subst (λ (c : Listing). depth_of c ≤ l.depth) e d)
      (subst (λ (c : Listing). Runs empty_bench (opening (stored c) (brought_rows ts) l ∷ []) b) e run) r h)

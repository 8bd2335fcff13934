-- From what a bench holds to the hint of its state. Assumes nothing.
use Rattle.std.specs.Prelude.{Err}
use mathlib.Core.Path.{◌≡◌, refl, ap, ap₂, ◌∙◌, sym}
use mathlib.Core.Bool.{Bool, true, false, cond, true≢false}
use mathlib.Core.List.{List, [], ◌∷◌, ◌++◌}
use Prim.Native.Nat.{ℕ, ◌+◌, ◌-◌, ◌<◌}
use native.Mathlib.Omega.{arith}
use borrow.Author.Tests.{eqb-true, ltb-true}
use lib.Dec.{ltb, eqb}
use lib.ListN.{length, get_or, replicate, length-replicate}
use Rattle.circuit.specs.declared.Refusal.TheVariants.{NotThere, NothingOpen}
use Rattle.circuit.specs.Lines.{Listing, gate_at, padded, upto, depth_step}
use Rattle.circuit.specs.Rows.{Row, no_row, mask_step, input_masks, masks}
use Rattle.circuit.specs.Sizes.{most_lines, most_values}
use Rattle.circuit.proofs.LineLaws.{lines_length, lines_agree}
use Rattle.circuit.proofs.Padding.{pad_read}
use Rattle.circuit.proofs.RuleLaws.{CircuitFits, circuit_fits}
use Rattle.circuit.proofs.Shapes.{both}
use Rattle.circuit.proofs.Upto.{upto_same, upto_all}
use Rattle.distance.specs.Query.{answer_of, lines_of}
use Rattle.targets.specs.Target.{Target, matrix, table, is_matrix, target_bytes, target_fits}
use Rattle.targets.proofs.Bytes.{row_read, rows_back}
use Rattle.bench.specs.declared.Bench.{Bench}
use Rattle.bench.specs.State.{State, Present}
use Rattle.bench.specs.Held.{full_bench}
use Rattle.bench.specs.Parts.{gate_on, open_on}
use Rattle.bench.proofs.Standing.{gate-of}
use Rattle.bench.proofs.Stood.{when-open, when_shut}
use Rattle.hint.specs.Hint.{depths_of, shallow, picked, Hinted, hint_answer, hinted, hint_for, hint_under, hint_of, HintPromise}
use Rattle.hint.specs.Parts.{masks_on, hint_on, is_row}

-- zeros past the last line change nothing
picked-padded : (is xs : List ℕ) (m : ℕ) → picked is (xs ++ replicate m 0) ≡ picked is xs
picked-padded [] xs m = refl
picked-padded (i ∷ is) xs m = ap₂ (λ (x : ℕ) (l : List ℕ). x ∷ l) (pad_read xs m i 0) (picked-padded is xs m)

-- ---- the bench of a state

pub on_full : (s : State) → CircuitFits (is_matrix s.target) s.circuit → (t D : ℕ) → hint_on (full_bench s) t D ≡ hint_for s.circuit t D
unfolding full_bench hint_on hint_for masks_on
on_full s f t D =
    let c = s.circuit in
    let n = c.inputs in
    let g = length c.gates in
    let ds = depths_of c in
    let long : n + g ≡ length ds = omega (arith, lines_length depth_step 0 (replicate n 0) (gate_at c) g, length-replicate {A = ℕ} n 0) in
    let e = ap shallow (upto_same _ (λ (i : ℕ). get_or ds i 0) (n + g) (λ i h. pad_read ds (most_lines - length ds) i 0)
    ∙ ap (upto (λ (i : ℕ). get_or ds i 0)) long ∙ upto_all ds 0) in
    let own = lines_agree mask_step 0 (input_masks n) (gate_at c) (gate_on (full_bench s)) g (λ i h. gate-of s f i) in
    let is = shallow ds in
    let p = ap (λ (l : List ℕ). picked l (masks_on (full_bench s))) e ∙ picked-padded is (masks n (gate_on (full_bench s)) g) (most_lines - (n + g)) ∙ ap (picked is) own in
    let q = ap (λ (l : List ℕ). picked l (padded most_lines 0 ds)) e ∙ picked-padded is ds (most_lines - length ds) in
    λ i. hinted (hint_answer (answer_of n (p i) (q i) t D)) (picked (lines_of n (p i) (q i) t D) (e i))

-- ---- a row that is there, and one that is not

-- the bytes of a matrix begin with its masks
mask_read : (rows : List Row) (j : ℕ) → j < length rows → get_or (padded most_values 0 (target_bytes (matrix rows))) j 0 ≡ (get_or rows j no_row).mask
mask_read rows j h =
    let bytes = target_bytes (matrix rows) in
    let l = padded most_values 0 bytes in
    ap (λ (r : Row). r.mask)
    (sym (row_read 0 (length rows) l j h) ∙ ap (λ (rs : List Row). get_or rs j no_row) (rows_back 0 rows l (λ k. pad_read bytes (most_values - length bytes) k 0)))

row_there : (c : Listing) (t : Target) (j D : ℕ) → target_fits c.inputs (length c.outs) t ≡ true → is_row (is_matrix t) j (length c.outs) ≡ true
    → hint_for c (get_or (padded most_values 0 (target_bytes t)) j 0) D ≡ hint_under c t j D
unfolding target_fits
row_there c (table entries) j D fit h = absurd (true≢false (sym h))
row_there c (matrix rows) j D fit h =
    let e = eqb-true (length rows) (length c.outs) (both (eqb (length rows) (length c.outs)) fit).0 in
    let there = ap (ltb j) e ∙ h in
    ap (λ (t : ℕ). hint_for c t D) (mask_read rows j (ltb-true j (length rows) there))
    ∙ sym (ap (λ (x : Bool). cond x (hint_for c (get_or rows j no_row).mask D) (Err NotThere)) there)

row_gone : (c : Listing) (t : Target) (j D : ℕ) → target_fits c.inputs (length c.outs) t ≡ true → is_row (is_matrix t) j (length c.outs) ≡ false
    → Err NotThere ≡ hint_under c t j D
unfolding target_fits
row_gone c (table entries) j D fit h = refl
row_gone c (matrix rows) j D fit h =
    let e = eqb-true (length rows) (length c.outs) (both (eqb (length rows) (length c.outs)) fit).0 in
    sym (ap (λ (x : Bool). cond x (hint_for c (get_or rows j no_row).mask D) (Err NotThere)) (ap (ltb j) e ∙ h))

-- ---- the call

module _ (b : Bench) (j D : ℕ) where
  -- the row's hint
  pub hint_row : (r : Hinted) → open_on b ≡ true → is_row b.is_matrix j b.m ≡ true → r ≡ hint_on b (get_or b.target j 0) D → HintPromise b j D r
  unfolding full_bench
  hint_row r o there e = when-open (λ (p : Present). r ≡ hint_of p j D) b o (λ s ok is.
      let c = s.circuit in
      let f = circuit_fits (is_matrix s.target) c ok.circuit in
      let row = sym (ap (λ (x : Bench). is_row x.is_matrix j x.m) is) ∙ there in
      e ∙ ap (λ (x : Bench). hint_on x (get_or x.target j 0) D) is ∙ on_full s f _ D ∙ row_there c s.target j D ok.target row)

  -- no such row
  pub hint_no-row : open_on b ≡ true → is_row b.is_matrix j b.m ≡ false → HintPromise b j D (Err NotThere)
  unfolding full_bench
  hint_no-row o gone = when-open (λ (p : Present). Err NotThere ≡ hint_of p j D) b o (λ s ok is.
      row_gone s.circuit s.target j D ok.target (sym (ap (λ (x : Bench). is_row x.is_matrix j x.m) is) ∙ gone))

  -- nothing open
  pub hint_nothing : open_on b ≡ false → HintPromise b j D (Err NothingOpen)
  hint_nothing o = when_shut (λ (p : Present). Err NothingOpen ≡ hint_of p j D) b o (λ e. refl)

-- Which hints are refused in a state that keeps every rule: of a row that is there, those of a row whose mask is 0, those whose depth is
-- above 15, and no others. Assumes nothing.
use Rattle.std.specs.Prelude.{Result, Ok, Err}
use Rattle.circuit.specs.Rules.{done}
use mathlib.Core.Path.{◌≡◌, refl, ap, ap₂, ◌∙◌, sym}
use mathlib.Core.Bool.{Bool, true, false, not, ◌||◌}
use mathlib.Core.List.Memᴰ
use mathlib.Core.List.{List, [], ◌∷◌, Memᴰ}
use Prim.Native.Nat.{ℕ, zero, suc, ◌^◌, ◌≤◌, ◌<◌}
use native.Mathlib.Omega.{arith}
use borrow.Author.Tests.{lt-ltb, le-ltb, lt-leb, eq-eqb, ne_eqb, ltb-true}
use lib.Dec.{ltb, eqb}
use lib.ListN.{length, get_or, replicate, length-map}
use Rattle.circuit.specs.declared.Refusal.{Refusal}
use Rattle.circuit.specs.declared.Refusal.TheVariants.{Target as BadTarget, TooDeep}
use Rattle.circuit.specs.Lines.{Listing, gate_at, lines, depths, depth_step}
use Rattle.circuit.specs.Rows.{Row, no_row, masks_of}
use Rattle.circuit.specs.Rules.{listing_answer}
use Rattle.circuit.proofs.LineLaws.{lines_more}
use Rattle.circuit.proofs.RowLaws.{masks_small}
use Rattle.circuit.proofs.RuleLaws.{CircuitFits, circuit_fits}
use Rattle.circuit.proofs.Shapes.{both}
use Rattle.distance.specs.declared.Refusal.{Refusal as QueryRefusal}
use Rattle.distance.specs.declared.Refusal.TheVariants.{Inputs, Lists, Mask, Depth}
use Rattle.distance.specs.Base.{base_of}
use Rattle.distance.specs.Distance.{distance}
use Rattle.distance.specs.Query.{refuse, look_at, answered, where_sound, answer_of}
use Rattle.distance.proofs.Each.{Each, each_of}
use Rattle.distance.proofs.Refuse.{any_below}
use Rattle.targets.specs.Target.{Target, matrix, is_matrix, row_is_sound, target_fits}
use Rattle.targets.proofs.Fitting.{all_there}
use Rattle.bench.specs.State.{State, Sound}
use Rattle.hint.specs.Hint.{depths_of, shallow, picked, lines_from, hint_answer, hinted, hint_for}
use Rattle.hint.proofs.Choosing.{lines_many, shallow_in, shallow-has}
use Rattle.hint.proofs.Gathering.{shallow_few}

-- ---- lists

picked_each : (P : ℕ → Type 0) (xs is : List ℕ) → Each (λ (i : ℕ). P (get_or xs i 0)) is → Each P (picked is xs)
picked_each P xs [] e = tt
picked_each P xs (i ∷ is) e = (e.0, picked_each P xs is e.1)

some_there : (k : ℕ) (xs : List ℕ) → Memᴰ k xs → 0 < length xs
some_there k [] m = absurd (Memᴰ.not-nil m)
some_there k (x ∷ xs) m = omega arith

-- ---- the query of a row's mask over a circuit's lines

module _ (only : Bool) (c : Listing) (ok : listing_answer only c ≡ done) (t D : ℕ) (fits : t < 2 ^ c.inputs) where
  abbrev is : List ℕ
  is = shallow (depths_of c)

  abbrev ms : List ℕ
  ms = picked is (masks_of c)

  abbrev ds : List ℕ
  ds = picked is (depths_of c)

  -- the lines beside an answer
  abbrev xs : List ℕ
  xs = lines_from c.inputs is (masks_of c) (depths_of c) t D

  f : CircuitFits only c
  f = circuit_fits only c ok

  -- an input is there, at depth 0
  first_line : (n : ℕ) → 1 ≤ n → get_or (depths n (gate_at c) (length c.gates)) 0 0 ≡ 0
  unfolding lines
  first_line zero h = absurd (omega arith)
  first_line (suc n) h = lines_more depth_step 0 (replicate (suc n) 0) (gate_at c) 0 0 (omega arith) (length c.gates) (omega arith)

  some_line : 0 < length is
  some_line = some_there 0 is (shallow-has (depths_of c) 0 (omega (arith, lines_many c, f.shape.n_least)) (omega (arith, first_line c.inputs f.shape.n_least)))

  pub look_is : look_at c.inputs ms ds t D ≡ refuse (eqb t 0) Mask (refuse (ltb 15 D) Depth (Ok tt))
  unfolding look_at
  look_is =
      let n = c.inputs in
      let shape = f.shape in
      let lm = length-map is (λ (i : ℕ). get_or (masks_of c) i 0) in
      let ld = length-map is (λ (i : ℕ). get_or (depths_of c) i 0) in
      let n-low = le-ltb n 1 shape.n_least in
      let n-high = le-ltb 8 n shape.n_most in
      let even = ap not (eq-eqb (length ms) (length ds) (lm ∙ sym ld)) in
      let some = ne_eqb (length ms) 0 (λ e. omega (arith, lm, some_line)) in
      let few = le-ltb 256 (length ms) (omega (arith, lm, shallow_few (depths_of c), lines_many c, shape.n_most, shape.g_most)) in
      let small = any_below (2 ^ n) ms (picked_each (λ (m : ℕ). m < 2 ^ n) (masks_of c) is (each_of _ is (λ i m. masks_small n (gate_at c) (length c.gates) i))) in
      let mask = ap₂ (λ (x y : Bool). x || eqb t 0 || y) small (lt-leb (2 ^ n) t fits) ∙ or-none (eqb t 0) in
      let flat = any_below 16 ds (picked_each (λ (d : ℕ). d < 16) (depths_of c) is (each_of _ is (λ i m. omega (arith, (shallow_in (depths_of c) i m).1)))) in
      λ i. refuse (n-low i || n-high i) Inputs (refuse (even i || some i || few i) Lists (refuse (mask i) Mask (refuse (flat i || ltb 15 D) Depth (Ok tt)))) where
        or-none : (x : Bool) → (x || false) ≡ x
        or-none true = refl
        or-none false = refl

  -- what is answered, by the two tests
  answered_by : (empty deep : Bool) → eqb t 0 ≡ empty → ltb 15 D ≡ deep
      → hint_for c t D ≡ hinted (hint_answer (where_sound (refuse empty Mask (refuse deep Depth (Ok tt))) (answered (distance c.inputs (base_of ms ds) t D)))) xs
  unfolding hint_for answer_of
  answered_by empty deep z d =
      ap (λ (l : Result (Unit {0}) QueryRefusal). hinted (hint_answer (where_sound l (answered (distance c.inputs (base_of ms ds) t D)))) xs)
      (look_is ∙ ap₂ (λ (x y : Bool). refuse x Mask (refuse y Depth (Ok tt))) z d)

  pub zero-refused : t ≡ 0 → hint_for c t D ≡ Err BadTarget
  zero-refused z = answered_by true (ltb 15 D) (eq-eqb t 0 z) refl

  module _ (some : t ≡ 0 → ⊥) where
    pub deep_refused : 15 < D → hint_for c t D ≡ Err TooDeep
    deep_refused h = answered_by false true (ne_eqb t 0 some) (lt-ltb 15 D h)

    pub flat_answered : D ≤ 15 → (why : Refusal) → hint_for c t D ≡ Err why → ⊥
    flat_answered h why e = let k = sym (answered_by false false (ne_eqb t 0 some) (le-ltb 15 D h)) ∙ e in cc

-- ---- in a state that keeps every rule
module _ (s : State) (ok : Sound s) (rows : List Row) (is-matrix : s.target ≡ matrix rows) (j D : ℕ) (there : j < length rows) where
  -- a row's mask does not reach 2^n, and its constant is 0 or 1
  pub row_fits : ((get_or rows j no_row).mask < 2 ^ s.circuit.inputs) × ((get_or rows j no_row).constant < 2)
  unfolding target_fits row_is_sound
  row_fits =
      let n = s.circuit.inputs in
      let m = length s.circuit.outs in
      let r = get_or rows j no_row in
      let e = sym (ap (λ (t : Target). target_fits n m t) is-matrix) ∙ ok.target in
      let b = both (ltb r.mask (2 ^ n)) (all_there no_row (row_is_sound n) rows j (both (eqb (length rows) m) e).1 there) in
      (ltb-true r.mask (2 ^ n) b.0, ltb-true r.constant 2 b.1)

  abbrev mask : ℕ
  mask = (get_or rows j no_row).mask

  pub row_zero : mask ≡ 0 → hint_for s.circuit mask D ≡ Err BadTarget
  row_zero = zero-refused (is_matrix s.target) s.circuit ok.circuit mask D row_fits.0

  pub too_deep : (mask ≡ 0 → ⊥) → 15 < D → hint_for s.circuit mask D ≡ Err TooDeep
  too_deep = deep_refused (is_matrix s.target) s.circuit ok.circuit mask D row_fits.0

  pub not-refused : (mask ≡ 0 → ⊥) → D ≤ 15 → (why : Refusal) → hint_for s.circuit mask D ≡ Err why → ⊥
  not-refused = flat_answered (is_matrix s.target) s.circuit ok.circuit mask D row_fits.0

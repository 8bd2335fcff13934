-- The outputs of a book: which row each is, and that it is whole exactly where those below the highest are all there.
use Rattle.std.specs.Prelude.{Option, Some, None}
use mathlib.Core.Path.{◌≡◌, refl, sym, ap, subst, ◌∙◌}
use mathlib.Core.Bool.{Bool, true, false, cond}
use mathlib.Core.Logic.{◌⊎◌, inl, inr, ⊎_elim}
use mathlib.Core.List.{List}
use Prim.Native.Nat.{ℕ, zero, suc, ◌+◌, ◌≤◌, ◌<◌}
use native.Mathlib.Omega.{arith}
use borrow.Author.Tests.{eqb-true, eqb-false, lt-ltb, ltb-true, ltb-false}
use lib.Dec.{ltb, eqb}
use lib.ListN.{get_or}
use Rattle.circuit.proofs.LineLaws.{place}
use Rattle.circuit.proofs.Upto.{upto_at}
use Rattle.formula.specs.Sizes.{most_names}
use Rattle.formula.specs.Names.{few_names, is_line}
use Rattle.sheet.specs.declared.Book.{Book}
use Rattle.drawing.specs.Outputs.{output_no, numbers_of, out_from, out_line, top_from, top_of, all_from, whole_of}
use Rattle.drawing.specs.Drawing.{numbers_in, whole_book}
use Rattle.known.proofs.Table.{few_is}
use Rattle.meaning.proofs.Tables.{row_at}

-- ---- a search by number

module _ (numbers lines : List ℕ) where
  -- a place from i on, one of f, that has the number of output j and the line v
  record Hit (j f i v : ℕ) : Type 0 where
    at : ℕ
    least : i ≤ at
    within : at < i + f
    number : get_or numbers at 0 ≡ j + 1
    line : get_or lines at 0 ≡ v

  hit : (j f i v : ℕ) → out_from numbers lines j f i ≡ Some v → Hit j f i v
  unfolding out_from
  hit j zero i v e = let z : ◌≡◌ {A = ℕ} 0 1 = cc in absurd (omega arith)
  hit j (suc f) i v e = by (eqb (get_or numbers i 0) (j + 1)) refl (hit j f (i + 1) v) e
    where
      by : (t : Bool) → eqb (get_or numbers i 0) (j + 1) ≡ t → (out_from numbers lines j f (i + 1) ≡ Some v → Hit j f (i + 1) v)
          → cond t (Some (get_or lines i 0)) (out_from numbers lines j f (i + 1)) ≡ Some v → Hit j (suc f) i v
      by true w ih e = record { at = i; least = omega arith; within = omega arith; number = eqb-true _ _ w; line = cc }
      by false w ih e = let x = ih e in record { at = x.at; least = omega (arith, x.least); within = omega (arith, x.within); number = x.number; line = x.line }

  -- where the search finds none no place has the number
  no_hit : (j f i : ℕ) → out_from numbers lines j f i ≡ None → (k : ℕ) → i ≤ k → k < i + f → get_or numbers k 0 ≡ j + 1 → ⊥
  unfolding out_from
  no_hit j zero i e k h m w = omega arith
  no_hit j (suc f) i e k h m w = by (eqb (get_or numbers i 0) (j + 1)) refl (no_hit j f (i + 1)) e
    where
      by : (t : Bool) → eqb (get_or numbers i 0) (j + 1) ≡ t → (out_from numbers lines j f (i + 1) ≡ None → (k : ℕ) → i + 1 ≤ k → k < i + 1 + f → get_or numbers k 0 ≡ j + 1 → ⊥)
          → cond t (Some (get_or lines i 0)) (out_from numbers lines j f (i + 1)) ≡ None → ⊥
      by true q ih e = let z : ◌≡◌ {A = ℕ} 0 1 = cc in omega arith
      by false q ih e =
          ⊎_elim (λ l. ih e k (omega arith) (omega arith) w) (⊎_elim (λ x. eqb-false _ _ q (ap (λ (y : ℕ). get_or numbers y 0) x ∙ w)) (λ l. omega arith)) (place i k)

  -- a line that is there
  pub record There (n j : ℕ) : Type 0 where
    pub line : ℕ
    pub is : out_line numbers lines n j ≡ Some line

  there : (n j : ℕ) (f : Option ℕ) → out_line numbers lines n j ≡ f → is_line f ≡ true → There n j
  there n j (Some v) e h = record { line = v; is = e }
  there n j None e h = let z : ◌≡◌ {A = ℕ} 0 1 = cc in absurd (omega arith)

  all_there : (n f i : ℕ) → all_from numbers lines n f i ≡ true → (j : ℕ) → i ≤ j → j < i + f → There n j
  unfolding all_from
  all_there n zero i e j h m = absurd (omega arith)
  all_there n (suc f) i e j h m = by (is_line (out_line numbers lines n i)) refl (all_there n f (i + 1)) e
    where
      by : (t : Bool) → is_line (out_line numbers lines n i) ≡ t → (all_from numbers lines n f (i + 1) ≡ true → (j : ℕ) → i + 1 ≤ j → j < i + 1 + f → There n j)
          → cond t (all_from numbers lines n f (i + 1)) false ≡ true → There n j
      by true w ih e = ⊎_elim (λ l. ih e j (omega arith) (omega arith)) (⊎_elim (λ k. subst (There n) k (there n i (out_line numbers lines n i) refl w)) (λ l. absurd (omega arith))) (place i j)
      by false w ih e = let z : ◌≡◌ {A = ℕ} 0 1 = cc in absurd (omega arith)

  -- one of f outputs from i on, whose line is not there
  pub record Missing (n f i : ℕ) : Type 0 where
    pub at : ℕ
    pub within : at < i + f
    pub none : is_line (out_line numbers lines n at) ≡ false

  missing : (n f i : ℕ) → all_from numbers lines n f i ≡ false → Missing n f i
  unfolding all_from
  missing n zero i e = let z : ◌≡◌ {A = ℕ} 0 1 = cc in absurd (omega arith)
  missing n (suc f) i e = by (is_line (out_line numbers lines n i)) refl (missing n f (i + 1)) e
    where
      by : (t : Bool) → is_line (out_line numbers lines n i) ≡ t → (all_from numbers lines n f (i + 1) ≡ false → Missing n f (i + 1))
          → cond t (all_from numbers lines n f (i + 1)) false ≡ false → Missing n (suc f) i
      by true w ih e = let x = ih e in record { at = x.at; within = omega (arith, x.within); none = x.none }
      by false w ih e = record { at = i; within = omega arith; none = w }

-- no number is above the greatest
top_most : (numbers : List ℕ) (f i t : ℕ) → (t ≤ top_from numbers f i t) × ((k : ℕ) → i ≤ k → k < i + f → get_or numbers k 0 ≤ top_from numbers f i t)
unfolding top_from
top_most numbers zero i t = (omega arith, λ k l m. absurd (omega arith))
top_most numbers (suc f) i t = by (ltb t (get_or numbers i 0)) refl (λ u. top_most numbers f (i + 1) u)
  where
    Most : ℕ → ℕ → Type 0
    Most t r = (t ≤ r) × ((k : ℕ) → i ≤ k → k < i + suc f → get_or numbers k 0 ≤ r)

    on : (u r : ℕ) → t ≤ u → get_or numbers i 0 ≤ u → (u ≤ r) × ((k : ℕ) → i + 1 ≤ k → k < i + 1 + f → get_or numbers k 0 ≤ r) → Most t r
    on u r a b w = (omega (arith, w.0), λ k l m. ⊎_elim (λ h. w.1 k (omega arith) (omega arith)) (⊎_elim (λ e. subst (λ (x : ℕ). get_or numbers x 0 ≤ r) e (omega (arith, w.0))) (λ h. absurd (omega arith))) (place i k))

    by : (c : Bool) → ltb t (get_or numbers i 0) ≡ c → ((u : ℕ) → (u ≤ top_from numbers f (i + 1) u) × ((k : ℕ) → i + 1 ≤ k → k < i + 1 + f → get_or numbers k 0 ≤ top_from numbers f (i + 1) u))
        → Most t (top_from numbers f (i + 1) (cond c (get_or numbers i 0) t))
    by true e ih = on (get_or numbers i 0) _ (omega (arith, ltb-true t (get_or numbers i 0) e)) (omega arith) (ih (get_or numbers i 0))
    by false e ih = on t _ (omega arith) (ltb-false _ _ e) (ih t)

-- one of the numbers before the place n is r
abbrev OneIs : List ℕ → ℕ → ℕ → Type 0
OneIs numbers n r = (k : ℕ) × ((k < n) × (get_or numbers k 0 ≡ r))

-- the greatest is t or one of the numbers
top_one : (numbers : List ℕ) (f i t : ℕ) → t < top_from numbers f i t → OneIs numbers (i + f) (top_from numbers f i t)
unfolding top_from
top_one numbers zero i t h = absurd (omega arith)
top_one numbers (suc f) i t h = by (ltb t (get_or numbers i 0)) (λ u l. let x = top_one numbers f (i + 1) u l in (x.0, (omega (arith, x.1.0), x.1.1))) h
  where
    by : (c : Bool) → ((u : ℕ) → u < top_from numbers f (i + 1) u → OneIs numbers (i + suc f) (top_from numbers f (i + 1) u))
        → let r = top_from numbers f (i + 1) (cond c (get_or numbers i 0) t) in t < r → OneIs numbers (i + suc f) r
    by true ih l =
        let u = get_or numbers i 0 in
        let m = (top_most numbers f (i + 1) u).0 in
        ⊎_elim (ih u) (⊎_elim (λ e. (i, (omega arith, e))) (λ k. absurd (omega arith))) (place u (top_from numbers f (i + 1) u))
    by false ih l = ih t l

-- ---- a book

module _ (s : List ℕ) (b : Book) (few : b.names.n ≤ most_names) where
  number_at : (i : ℕ) → i < b.names.n → get_or (numbers_in s b) i 0 ≡ output_no s (row_at b i).start
  unfolding numbers_of
  number_at i h =
      upto_at (λ (i : ℕ). cond (ltb i (few_names b.names.n)) (output_no s (get_or b.starts i 0)) 0) 0 most_names i (omega arith)
      ∙ rw (few_is b.names.n few, lt-ltb _ _ h)

  -- output j is row i, whose line is v
  pub record Shows (j v : ℕ) : Type 0 where
    pub row : ℕ
    pub within : row < b.names.n
    pub number : output_no s (row_at b row).start ≡ suc j
    pub line : (row_at b row).line ≡ v

  pub shows : (j v : ℕ) → out_line (numbers_in s b) b.names.lines b.names.n j ≡ Some v → Shows j v
  shows j v e =
      let h = hit (numbers_in s b) b.names.lines j b.names.n 0 v (ap (λ (n : ℕ). out_from (numbers_in s b) b.names.lines j n 0) (sym (few_is b.names.n few)) ∙ e) in
      let w : h.at < b.names.n = omega (arith, h.within) in
      record { row = h.at; within = w; number = omega (arith, number_at h.at w, h.number); line = h.line }

  -- no row is output j where that is not found
  pub shows_none : (j : ℕ) → out_line (numbers_in s b) b.names.lines b.names.n j ≡ None → (i : ℕ) → i < b.names.n → output_no s (row_at b i).start ≡ suc j → ⊥
  shows_none j e i h w =
      no_hit (numbers_in s b) b.names.lines j b.names.n 0 (ap (λ (n : ℕ). out_from (numbers_in s b) b.names.lines j n 0) (sym (few_is b.names.n few)) ∙ e) i (omega arith) (omega arith)
      (omega (arith, number_at i h, w))

  top_is : top_from (numbers_in s b) b.names.n 0 0 ≡ top_of (numbers_in s b) b.names.n
  top_is = ap (λ (n : ℕ). top_from (numbers_in s b) n 0 0) (sym (few_is b.names.n few))

  -- no row is an output from the highest on
  pub none_above : (i j : ℕ) → i < b.names.n → output_no s (row_at b i).start ≡ suc j → j < top_of (numbers_in s b) b.names.n
  none_above i j h e = omega (arith, (top_most (numbers_in s b) b.names.n 0 0).1 i (omega arith) (omega arith), top_is, number_at i h)

  -- and some row is the highest
  pub highest : (j : ℕ) → suc j ≡ top_of (numbers_in s b) b.names.n → (i : ℕ) × ((i < b.names.n) × (output_no s (row_at b i).start ≡ suc j))
  highest j e =
      let x = top_one (numbers_in s b) b.names.n 0 0 (omega (arith, top_is)) in
      let h : x.0 < b.names.n = omega (arith, x.1.0) in
      (x.0, (h, omega (arith, number_at x.0 h, x.1.1, top_is)))

  -- what a whole book has
  pub record Whole : Type 0 where
    pub input : 0 < b.gates.high
    pub output : 0 < top_of (numbers_in s b) b.names.n
    pub each : (j : ℕ) → j < top_of (numbers_in s b) b.names.n → There (numbers_in s b) b.names.lines b.names.n j

  pub whole : whole_book s b ≡ true → Whole
  unfolding whole_of
  whole e = by (eqb b.gates.high 0) refl (eqb (top_of (numbers_in s b) b.names.n) 0) refl e
    where
      by : (t : Bool) → eqb b.gates.high 0 ≡ t → (u : Bool) → eqb (top_of (numbers_in s b) b.names.n) 0 ≡ u
          → cond t false (cond u false (all_from (numbers_in s b) b.names.lines b.names.n (top_of (numbers_in s b) b.names.n) 0)) ≡ true → Whole
      by true et u eu e = let z : ◌≡◌ {A = ℕ} 0 1 = cc in absurd (omega arith)
      by false et true eu e = let z : ◌≡◌ {A = ℕ} 0 1 = cc in absurd (omega arith)
      by false et false eu e =
          record {
            input = omega (arith, eqb-false b.gates.high 0 et);
            output = omega (arith, eqb-false (top_of (numbers_in s b) b.names.n) 0 eu);
            each = λ j h. all_there (numbers_in s b) b.names.lines b.names.n (top_of (numbers_in s b) b.names.n) 0 e j (omega arith) (omega arith);
          }

  -- and what one that is not whole has not
  pub not-whole : whole_book s b ≡ false
      → (b.gates.high ≡ 0) ⊎ ((top_of (numbers_in s b) b.names.n ≡ 0) ⊎ Missing (numbers_in s b) b.names.lines b.names.n (top_of (numbers_in s b) b.names.n) 0)
  unfolding whole_of
  not-whole e = by (eqb b.gates.high 0) refl (eqb (top_of (numbers_in s b) b.names.n) 0) refl e
    where
      by : (t : Bool) → eqb b.gates.high 0 ≡ t → (u : Bool) → eqb (top_of (numbers_in s b) b.names.n) 0 ≡ u
          → cond t false (cond u false (all_from (numbers_in s b) b.names.lines b.names.n (top_of (numbers_in s b) b.names.n) 0)) ≡ false
          → (b.gates.high ≡ 0) ⊎ ((top_of (numbers_in s b) b.names.n ≡ 0) ⊎ Missing (numbers_in s b) b.names.lines b.names.n (top_of (numbers_in s b) b.names.n) 0)
      by true et u eu e = inl (eqb-true _ _ et)
      by false et true eu e = inr (inl (eqb-true _ _ eu))
      by false et false eu e = inr (inr (missing (numbers_in s b) b.names.lines b.names.n (top_of (numbers_in s b) b.names.n) 0 e))

-- Laws of a target and its bytes: the rows that some bytes are, the bytes of some rows, and what an edit changes of either. Assumes nothing.
use mathlib.Core.Path.{◌≡◌, refl, ap, ap₂, ◌∙◌, sym}
use mathlib.Core.Bool.{Bool, true, false, ◌&&◌}
use mathlib.Core.List.{List, [], ◌∷◌, ◌++◌, map}
use Prim.Native.Nat.{ℕ, zero, suc, ◌≤◌, ◌<◌, ◌+◌, ◌*◌, ◌^◌}
use native.Mathlib.Omega.{arith}
use native.Mathlib.Nat.{zero-add, suc-add}
use lib.Dec.{leb, eqb}
use lib.ListN.{length, get_or, set, take, drop, length-map, length-append, length-drop, length-set, take-append-drop, get_or-map}
use lib.Pow.{pow_mono}
use lib.Seq.{get_or-append-add, get_or-drop, set-append_left}
use borrow.Author.Tests.{eqb-true, eq-eqb}
use Rattle.circuit.specs.Sizes.{most_inputs, most_outputs, most_values}
use Rattle.circuit.specs.Lines.{upto}
use Rattle.circuit.specs.Rows.{Row, row, no_row}
use Rattle.circuit.proofs.Shapes.{both}
use Rattle.circuit.proofs.Upto.{upto-length, upto_at, upto_same, upto_take, upto_all, map-upto}
use Rattle.targets.specs.Target.{Target, matrix, table, is_matrix, target_fits, mask_bytes, row_in, rows_in, Brought, brought, target_by, target_in, brought_fits, target_bytes, as_brought}

-- ---- the rows that some bytes are

module _ (n m : ℕ) (l : List ℕ) where
  pub rows_many : length (rows_in n m l) ≡ m
  rows_many = upto-length (row_in n m l) m

  -- row j: mask j, and the constant that stands m further on
  pub row_is : (j : ℕ) → row_in n m l j ≡ row (get_or l j 0) (get_or l (m + j) 0)
  row_is j =
      let a : j * mask_bytes n ≡ j = omega arith in
      let b : m * mask_bytes n + j ≡ m + j = omega arith in
      λ i. row (get_or l (a i) 0) (get_or l (b i) 0)

  pub row_read : (j : ℕ) → j < m → get_or (rows_in n m l) j no_row ≡ row (get_or l j 0) (get_or l (m + j) 0)
  row_read j h = upto_at (row_in n m l) no_row m j h ∙ row_is j

  -- their bytes are those bytes
  pub rows_bytes : length l ≡ m + m → target_bytes (matrix (rows_in n m l)) ≡ l
  rows_bytes h = ap₂ ◌++◌ masks constants ∙ take-append-drop m l where
    masks : map (λ (r : Row). r.mask) (rows_in n m l) ≡ take m l
    masks =
        map-upto (λ (r : Row). r.mask) (row_in n m l) m
        ∙ upto_same _ (λ (j : ℕ). get_or l j 0) m (λ j k. ap (λ (r : Row). r.mask) (row_is j)) ∙ upto_take l 0 m (omega arith)

    rest : length (drop m l) ≡ m
    rest = omega (arith, length-drop m l)

    constants : map (λ (r : Row). r.constant) (rows_in n m l) ≡ drop m l
    constants =
        map-upto (λ (r : Row). r.constant) (row_in n m l) m
        ∙ upto_same _ (λ (j : ℕ). get_or (drop m l) j 0) m (λ j k. ap (λ (r : Row). r.constant) (row_is j) ∙ sym (get_or-drop m l j 0))
        ∙ ap (upto (λ (j : ℕ). get_or (drop m l) j 0)) (sym rest) ∙ upto_all (drop m l) 0

-- ---- what is brought, where it keeps its rule

-- a target is of the kind that is brought
pub kind_by : (only : Bool) (n m : ℕ) (bytes : List ℕ) → is_matrix (target_by only n m bytes) ≡ only
kind_by true n m bytes = refl
kind_by false n m bytes = refl

-- it keeps the target's rule, and its bytes are held
pub record Bringing (n m : ℕ) (b : Brought) : Type 0 where
  pub fits : target_fits n m (target_in n m b) ≡ true
  pub bytes : target_bytes (target_in n m b) ≡ b.bytes

pub brings : (n m : ℕ) (b : Brought) → brought_fits n m b ≡ true → Bringing n m b
unfolding brought_fits
brings n m b e = by b.of_matrix e where
  by : (only : Bool) → brought_fits n m (brought only b.bytes) ≡ true → Bringing n m (brought only b.bytes)
  by true e =
      let l = b.bytes in
      let k = both (eqb (length l) (m * mask_bytes n + m)) e in
      record { fits = k.1; bytes = rows_bytes n m l (omega (arith, eqb-true (length l) (m * mask_bytes n + m) k.0)) }
  by false e = record { fits = e; bytes = refl }

-- ---- the bytes of some rows

-- something of each, before or behind other bytes
at_front : (f : Row → ℕ) (rows : List Row) (l : List ℕ) (j : ℕ) → j < length rows → get_or (map f rows ++ l) j 0 ≡ f (get_or rows j no_row)
at_front f [] l j h = absurd (omega arith)
at_front f (r ∷ rows) l zero h = refl
at_front f (r ∷ rows) l (suc j) h = at_front f rows l j (omega arith)

-- they are read from those bytes, and from any that read the same, as with zeros past the last
pub rows_back : (n : ℕ) (rows : List Row) (l : List ℕ) → ((k : ℕ) → get_or l k 0 ≡ get_or (target_bytes (matrix rows)) k 0) → rows_in n (length rows) l ≡ rows
rows_back n rows l same = upto_same (row_in n (length rows) l) (λ (j : ℕ). get_or rows j no_row) (length rows) each ∙ upto_all rows no_row where
  masks : List ℕ
  masks = map (λ (r : Row). r.mask) rows

  constants : List ℕ
  constants = map (λ (r : Row). r.constant) rows

  behind : (j : ℕ) → get_or (masks ++ constants) (length rows + j) 0 ≡ (get_or rows j no_row).constant
  behind j =
      ap (λ (k : ℕ). get_or (masks ++ constants) (k + j) 0) (sym (length-map rows (λ (r : Row). r.mask)))
      ∙ get_or-append-add masks constants j 0 ∙ get_or-map (λ (r : Row). r.constant) rows j no_row

  each : (j : ℕ) → j < length rows → row_in n (length rows) l j ≡ get_or rows j no_row
  each j h = row_is n (length rows) l j ∙ ap₂ row (same j ∙ at_front (λ (r : Row). r.mask) rows constants j h) (same (length rows + j) ∙ behind j)

-- ---- a target that keeps its rule, brought

pub rows_long : (rows : List Row) → length (target_bytes (matrix rows)) ≡ length rows + length rows
rows_long rows =
    let a = map (λ (r : Row). r.mask) rows in
    let b = map (λ (r : Row). r.constant) rows in
    omega (arith, length-append a b, length-map rows (λ (r : Row). r.mask), length-map rows (λ (r : Row). r.constant))

-- a target that keeps its rule has at most a byte for each input value
pub target_short : (n m : ℕ) (t : Target) → n ≤ most_inputs → m ≤ most_outputs → target_fits n m t ≡ true → length (target_bytes t) ≤ most_values
unfolding target_fits
target_short n m (matrix rows) n8 m32 f = omega (arith, eqb-true (length rows) m (both (eqb (length rows) m) f).0, rows_long rows)
target_short n m (table entries) n8 m32 f =
    let k = both (eqb (length entries) (2 ^ n)) (both (leb m 8) f).1 in
    omega (arith, eqb-true (length entries) (2 ^ n) k.0, pow_mono {i = n} {j = 8} n8)

module _ (n m : ℕ) where
  -- it is itself,
  pub brought-back : (t : Target) → target_fits n m t ≡ true → target_in n m (as_brought t) ≡ t
  unfolding target_fits
  brought-back (matrix rows) f =
      let l = eqb-true (length rows) m (both (eqb (length rows) m) f).0 in
      ap (λ (k : ℕ). matrix (rows_in n k (target_bytes (matrix rows)))) (sym l) ∙ ap matrix (rows_back n rows (target_bytes (matrix rows)) (λ k. refl))
  brought-back (table entries) f = refl

  -- and accepted
  pub brought-fits : (t : Target) → target_fits n m t ≡ true → brought_fits n m (as_brought t) ≡ true
  unfolding brought_fits target_fits
  brought-fits (matrix rows) f =
      let l = eqb-true (length rows) m (both (eqb (length rows) m) f).0 in
      let long = eq-eqb (length (target_bytes (matrix rows))) (m * mask_bytes n + m) (omega (arith, rows_long rows, l)) in
      let fits = ap (target_fits n m) (brought-back (matrix rows) f) ∙ f in
      λ i. long i && fits i
  brought-fits (table entries) f = f

-- ---- an entry changed

map-set : (f : Row → ℕ) (rows : List Row) (i : ℕ) (r : Row) → map f (set rows i r) ≡ set (map f rows) i (f r)
map-set f [] i r = refl
map-set f (x ∷ rows) zero r = refl
map-set f (x ∷ rows) (suc i) r = ap (λ (l : List ℕ). f x ∷ l) (map-set f rows i r)

set_behind : (xs ys : List ℕ) (i v : ℕ) → set (xs ++ ys) (length xs + i) v ≡ xs ++ set ys i v
set_behind [] ys i v = ap (λ (k : ℕ). set ys k v) (zero-add i)
set_behind (x ∷ xs) ys i v = ap (λ (k : ℕ). set (x ∷ (xs ++ ys)) k v) (suc-add (length xs) i) ∙ ap (λ (l : List ℕ). x ∷ l) (set_behind xs ys i v)

-- a row's mask stands at its number, and its constant behind all masks
pub set-row : (rows : List Row) (i mask constant : ℕ) → i < length rows
    → set (set (target_bytes (matrix rows)) i mask) (length rows + i) constant ≡ target_bytes (matrix (set rows i (row mask constant)))
set-row rows i mask constant h =
    let masks = map (λ (r : Row). r.mask) rows in
    let constants = map (λ (r : Row). r.constant) rows in
    let long = length-map rows (λ (r : Row). r.mask) in
    let e : length rows ≡ length (set masks i mask) = sym (length-set masks i mask ∙ long) in
    ap (λ (l : List ℕ). set l (length rows + i) constant) (set-append_left masks constants i mask (omega arith))
    ∙ ap (λ (k : ℕ). set (set masks i mask ++ constants) (k + i) constant) e
    ∙ set_behind (set masks i mask) constants i constant
    ∙ sym (ap₂ ◌++◌ (map-set (λ (r : Row). r.mask) rows i (row mask constant)) (map-set (λ (r : Row). r.constant) rows i (row mask constant)))

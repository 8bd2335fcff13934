-- Laws of a target's rules: powers of two by shifts, and a test of each byte, one after the other. Assumes nothing.
use mathlib.Core.Path.{◌≡◌, refl, ap, ◌∙◌, sym}
use mathlib.Core.Bool.{Bool, true, false, ◌&&◌}
use mathlib.Core.List.{List, [], ◌∷◌}
use Prim.Native.Nat.{ℕ, zero, suc, ◌≤◌, ◌<◌, ◌+◌, ◌*◌, ◌%◌, ◌^◌}
use native.Mathlib.Omega.{arith}
use native.Mathlib.Nat.{one-mul}
use borrow.Author.Tests.{lt-ltb, eq-eqb, ne_eqb}
use lib.Dec.{leb, ltb, eqb, lit<}
use lib.ListN.{length, get_or, set}
use Rattle.std.specs.List.{list_all, range_with_len}
use Rattle.std.proofs.lemmas.Bool.{false≢true}
use Rattle.std.proofs.lemmas.List.Folds.{list_all-map}
use Rattle.std.proofs.lemmas.List.FromFn.{fill_by_all}
use lib.Pow.{pow_mono, shl_exact}
use Rattle.circuit.specs.Rules.{all_of}
use Rattle.circuit.specs.Rows.{row, no_row}
use Rattle.circuit.proofs.Shapes.{both}
use Rattle.targets.specs.Target.{row_is_sound, entry_fits, target_fits, mask_bytes, rows_in, brought, brought_fits}
use Rattle.targets.proofs.Bytes.{rows_many, row_read}

-- `1 << n`
pub shift_is : (n : ℕ) → n < 64 → (1 * 2 ^ n) % 2 ^ 64 ≡ 2 ^ n
shift_is n h = shl_exact {a = 1} 1 n 64 (lit< tt) (omega arith) ∙ one-mul (2 ^ n)

-- below 2^n and equal to it, for a number x of 64 bits
module _ (n x : ℕ) where
  pub below_shift : n < 64 → ltb x ((1 * 2 ^ n) % 2 ^ 64) ≡ ltb x (2 ^ n)
  below_shift h = ap (ltb x) (shift_is n h)

  pub power_shift : n < 64 → eqb x ((1 * 2 ^ n) % 2 ^ 64) ≡ eqb x (2 ^ n)
  power_shift h = ap (eqb x) (shift_is n h)

  module _ (h : 64 ≤ n) (word : x < 2 ^ 64) where
    pub below_past : true ≡ ltb x (2 ^ n)
    below_past = sym (lt-ltb x (2 ^ n) (omega (arith, pow_mono {i = 64} {j = n} h)))

    pub power_past : false ≡ eqb x (2 ^ n)
    power_past = sym (ne_eqb x (2 ^ n) (λ e. omega (arith, pow_mono {i = 64} {j = n} h)))

-- each of them, as the library has it
pub all_as : {A : Type 0} (p : A → Bool) (l : List A) → list_all p l ≡ all_of p l
unfolding all_of
all_as p [] = refl
all_as p (x ∷ l) = ap (λ (t : Bool). p x && t) (all_as p l)

-- each row, by its number
pub rows_as : (n m : ℕ) (l : List ℕ) → list_all (λ (j : ℕ). row_is_sound n (row (get_or l j 0) (get_or l (m + j) 0))) (range_with_len 0 m) ≡ all_of (row_is_sound n) (rows_in n m l)
rows_as n m l =
    let row_of = λ (j : ℕ). row (get_or l j 0) (get_or l (m + j) 0) in
    sym (list_all-map (row_is_sound n) row_of (range_with_len 0 m))
    ∙ ap (list_all (row_is_sound n)) (sym (fill_by_all row_of (rows_in n m l) m no_row (rows_many n m l) (row_read n m l)))
    ∙ all_as (row_is_sound n) (rows_in n m l)

-- the rule of a matrix
module _ (only : Bool) (n m : ℕ) (l : List ℕ) (e : only ≡ true) where
  pub rows_fit : length l ≡ m + m → all_of (row_is_sound n) (rows_in n m l) ≡ brought_fits n m (brought only l)
  unfolding brought_fits target_fits
  rows_fit h = rw e (simp (eq-eqb (length l) (m * mask_bytes n + m) (omega arith), eq-eqb (length (rows_in n m l)) m (rows_many n m l)))

  pub rows_unfit : (length l ≡ m + m → ⊥) → false ≡ brought_fits n m (brought only l)
  unfolding brought_fits
  rows_unfit h = rw e (simp (ne_eqb (length l) (m * mask_bytes n + m) (λ z. h (omega arith))))

-- three tests, the first two of which are asked as one
three_left : (s t u : Bool) → (s && t) ≡ true → u ≡ (s && (t && u))
three_left true t u h = sym (ap (λ (b : Bool). b && u) h)
three_left false t u h = absurd (false≢true h)

three_stop : (s t u : Bool) → (s && t) ≡ false → false ≡ (s && (t && u))
three_stop true t u h = sym (ap (λ (b : Bool). b && u) h)
three_stop false t u h = refl

-- the rule of a table
module _ (only : Bool) (n m : ℕ) (l : List ℕ) (e : only ≡ false) where
  pub entries_fit : (leb m 8 && eqb (length l) (2 ^ n)) ≡ true → all_of (entry_fits m) l ≡ brought_fits n m (brought only l)
  unfolding brought_fits target_fits
  entries_fit h = rw e (three_left (leb m 8) (eqb (length l) (2 ^ n)) (all_of (entry_fits m) l) h)

  pub entries_unfit : (leb m 8 && eqb (length l) (2 ^ n)) ≡ false → false ≡ brought_fits n m (brought only l)
  unfolding brought_fits target_fits
  entries_unfit h = rw e (three_stop (leb m 8) (eqb (length l) (2 ^ n)) (all_of (entry_fits m) l) h)

-- one changed for one that passes
pub all_set : {A : Type 0} (p : A → Bool) (l : List A) (i : ℕ) (v : A) → all_of p l ≡ true → p v ≡ true → all_of p (set l i v) ≡ true
unfolding all_of
all_set p [] i v h q = refl
all_set p (x ∷ l) zero v h q = λ k. q k && (both (p x) h).1 k
all_set p (x ∷ l) (suc i) v h q = λ k. (both (p x) h).0 k && all_set p l i v (both (p x) h).1 q k

-- each that is there passes
pub all_there : {A : Type 0} (d : A) (p : A → Bool) (l : List A) (j : ℕ) → all_of p l ≡ true → j < length l → p (get_or l j d) ≡ true
unfolding all_of
all_there d p [] j e h = absurd (omega arith)
all_there d p (x ∷ l) zero e h = (both (p x) e).0
all_there d p (x ∷ l) (suc j) e h = all_there d p l j (both (p x) e).1 (omega arith)

-- What the target wants of an output on an input is that input's bit in the words that it wants. Assumes nothing.
use mathlib.Core.Path.{◌≡◌, refl, ap, ap₂, ◌∙◌, sym}
use mathlib.Core.Bool.{Bool, true, false, cond}
use mathlib.Core.List.{List, [], ◌∷◌}
use Prim.Native.Nat.{ℕ, zero, suc, ◌≤◌, ◌<◌, ◌+◌, ◌*◌, ◌/◌, ◌%◌, ◌^◌, ◌-◌, min}
use native.Mathlib.Omega.{arith}
use native.Mathlib.Nat.{zero-add, mod-lt, zero-lt-suc}
use lib.Bits.{bit_and, differ}
use lib.Dec.{ltb, eqb}
use lib.ListN.{get_or, length}
use borrow.Author.Tests.{eqb-true, eqb-false, ltb-true}
use Rattle.circuit.specs.declared.Words.{Words}
use Rattle.circuit.specs.Sizes.{most_inputs, most_outputs, most_values}
use Rattle.circuit.specs.Gate.{Kind, bit, row_value_on, words_of, no_words, value_in}
use Rattle.circuit.specs.Lines.{input_words, upto, padded}
use Rattle.circuit.specs.Rows.{Row, no_row, on_row}
use Rattle.circuit.proofs.GateLaws.{bit-lt, differ-none}
use Rattle.circuit.proofs.RowLaws.{on_row_narrow}
use Rattle.circuit.proofs.Shapes.{both}
use Rattle.circuit.proofs.Upto.{upto_at, upto_same}
use Rattle.circuit.proofs.WordLaws.{value_words, input_right, none-set}
use Rattle.circuit.proofs.ParityLaws.{parity-lt, row_has, row_lacks}
use Rattle.circuit.proofs.Padding.{pad_read}
use Rattle.targets.specs.Target.{Target, matrix, table, wants, is_matrix, row_is_sound, target_fits, rows_in, target_by, target_bytes}
use Rattle.targets.specs.Wanted.{packed, mask_words, row_words, column_words, wanted_words, wanted_of, wanted_in}
use Rattle.targets.proofs.Bytes.{rows_back}
use Rattle.targets.proofs.Fitting.{all_there}
use Rattle.targets.proofs.Packing.{bit-packed}

-- ---- a row

mask_value : (k mask x : ℕ) → k ≤ most_inputs → x < most_values → value_in (mask_words k mask) x ≡ row_value_on k mask x
mask_value zero mask x hk hx = none-set x
mask_value (suc k) mask x hk hx = by (eqb (bit k mask) 1) refl (mask_value k mask x (omega arith) hx) where
  by : (t : Bool) → eqb (bit k mask) 1 ≡ t → value_in (mask_words k mask) x ≡ row_value_on k mask x
      → value_in (cond t (words_of Kind.XOR (mask_words k mask) (get_or input_words k no_words)) (mask_words k mask)) x ≡ row_value_on (suc k) mask x
  by true e r =
      value_words Kind.XOR (mask_words k mask) (get_or input_words k no_words) x hx
      ∙ ap₂ differ r (input_right x k hx (omega arith))
      ∙ sym (row_has k mask x (eqb-true (bit k mask) 1 e))
  by false e r = r ∙ sym (row_lacks k mask x (omega (arith, eqb-false (bit k mask) 1 e, bit-lt k mask)))

-- inverted is summed with 1
not-differ : (d : ℕ) → d < 2 → 1 - d ≡ differ d 1
not-differ zero h = refl
not-differ (suc zero) h = refl
not-differ (suc (suc d)) h = absurd (omega arith)

row_value : (r : Row) (x : ℕ) → r.constant < 2 → x < most_values → value_in (row_words r) x ≡ on_row r x
unfolding row_words
row_value r x hc hx = by (eqb r.constant 1) refl ∙ sym (on_row_narrow r x hx) where
  w : Words
  w = mask_words most_inputs r.mask

  on : value_in w x ≡ row_value_on most_inputs r.mask x
  on = mask_value most_inputs r.mask x (omega arith) hx

  by : (t : Bool) → eqb r.constant 1 ≡ t → value_in (cond t (words_of Kind.NOT w w) w) x ≡ differ (row_value_on most_inputs r.mask x) r.constant
  by true e =
      value_words Kind.NOT w w x hx ∙ ap (λ (d : ℕ). 1 - d) on ∙ not-differ (row_value_on most_inputs r.mask x) (parity-lt most_inputs (bit_and r.mask x))
      ∙ ap (differ (row_value_on most_inputs r.mask x)) (sym (eqb-true r.constant 1 e))
  by false e =
      let z : r.constant ≡ 0 = omega (arith, eqb-false r.constant 1 e) in
      on ∙ sym (ap (differ (row_value_on most_inputs r.mask x)) z ∙ differ-none (row_value_on most_inputs r.mask x))

-- ---- a column

-- word w of four
column_word : (entries : List ℕ) (j w : ℕ) → w < 4 → let c = column_words entries j in
    get_or (c.w0 ∷ c.w1 ∷ c.w2 ∷ c.w3 ∷ []) w 0 ≡ packed (λ (b : ℕ). bit j (get_or entries (64 * w + b) 0)) 64
column_word entries j zero h = λ i. packed (λ (b : ℕ). bit j (get_or entries (sym (zero-add b) i) 0)) 64
column_word entries j (suc zero) h = refl
column_word entries j (suc (suc zero)) h = refl
column_word entries j (suc (suc (suc zero))) h = refl
column_word entries j (suc (suc (suc (suc w)))) h = absurd (omega arith)

column_value : (entries : List ℕ) (j x : ℕ) → x < most_values → value_in (column_words entries j) x ≡ bit j (get_or entries x 0)
column_value entries j x h =
    let e : 64 * (x / 64) + x % 64 ≡ x = omega arith in
    ap (bit (x % 64)) (column_word entries j (x / 64) (omega arith))
    ∙ bit-packed (λ (b : ℕ). bit j (get_or entries (64 * (x / 64) + b) 0)) (λ b. bit-lt j _) 64 (x % 64) (mod-lt x (zero-lt-suc 63))
    ∙ ap (λ (y : ℕ). bit j (get_or entries y 0)) e

-- ---- either

-- of a target that keeps its rule
wanted_value : (n m : ℕ) (t : Target) (j x : ℕ) → target_fits n m t ≡ true → j < m → x < most_values → value_in (wanted_words t j) x ≡ wants t x j
unfolding wanted_words target_fits row_is_sound
wanted_value n m (matrix rows) j x f h hx =
    let k = both (eqb (length rows) m) f in
    let r = get_or rows j no_row in
    let e = all_there no_row (row_is_sound n) rows j k.1 (omega (arith, eqb-true (length rows) m k.0)) in
    row_value r x (ltb-true r.constant 2 (both (ltb r.mask (2 ^ n)) e).1) hx
wanted_value n m (table entries) j x f h hx = column_value entries j x hx

-- from its bytes with zeros past the last
padded_value : (n m : ℕ) (t : Target) (j : ℕ) → target_fits n m t ≡ true → j < m
    → wanted_words (target_by (is_matrix t) most_inputs m (padded most_values 0 (target_bytes t))) j ≡ wanted_words t j
unfolding wanted_words target_fits
padded_value n m (matrix rows) j f h =
    let bytes = target_bytes (matrix rows) in
    let l = padded most_values 0 bytes in
    let e = sym (eqb-true (length rows) m (both (eqb (length rows) m) f).0) in
    ap (λ (rs : List Row). row_words (get_or rs j no_row))
    (ap (λ (k : ℕ). rows_in most_inputs k l) e ∙ rows_back most_inputs rows l (λ k. pad_read bytes (most_values - length bytes) k 0))
padded_value n m (table entries) j f h =
    let e : (k : ℕ) → get_or (padded most_values 0 entries) k 0 ≡ get_or entries k 0 = λ k. pad_read entries (most_values - length entries) k 0 in
    λ i. record {
      w0 = packed (λ (b : ℕ). bit j (e b i)) 64;
      w1 = packed (λ (b : ℕ). bit j (e (64 + b) i)) 64;
      w2 = packed (λ (b : ℕ). bit j (e (128 + b) i)) 64;
      w3 = packed (λ (b : ℕ). bit j (e (192 + b) i)) 64;
    }

-- ---- of each output

module _ (n m : ℕ) (t : Target) (fits : target_fits n m t ≡ true) (few : m ≤ most_outputs) where
  all : min m most_outputs ≡ m
  all = omega arith

  pub wanted_padded : wanted_in (is_matrix t) (padded most_values 0 (target_bytes t)) m ≡ wanted_of t m
  unfolding wanted_in wanted_of
  wanted_padded =
      let bytes = padded most_values 0 (target_bytes t) in
      ap (λ (k : ℕ). padded most_outputs no_words (upto (wanted_words (target_by (is_matrix t) most_inputs k bytes)) (min k most_outputs))) all
      ∙ ap (padded most_outputs no_words)
      (upto_same (wanted_words (target_by (is_matrix t) most_inputs m bytes)) (wanted_words t) (min m most_outputs) (λ j h. padded_value n m t j fits (omega arith)))

  pub wanted_at : (j x : ℕ) → j < m → x < most_values → value_in (get_or (wanted_of t m) j no_words) x ≡ wants t x j
  unfolding wanted_of
  wanted_at j x hj hx =
      let us = upto (wanted_words t) (min m most_outputs) in
      ap (λ (w : Words). value_in w x) (pad_read us (most_outputs - length us) j no_words ∙ upto_at (wanted_words t) no_words (min m most_outputs) j (omega arith))
      ∙ wanted_value n m t j x fits hj hx

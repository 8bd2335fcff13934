-- Laws of rows: on a narrow input value, summed, and of the lines of a circuit. Where no gate is nonlinear, each line is its row. Assumes nothing.
use mathlib.Core.Path.{◌≡◌, refl, ap, ap₂, ◌∙◌, sym}
use mathlib.Core.Bool.{true}
use mathlib.Core.Logic.{⊎_elim}
use mathlib.Core.List.{List, [], ◌∷◌, map}
use Prim.Native.Nat.{ℕ, zero, suc, ◌+◌, ◌-◌, ◌*◌, ◌/◌, ◌%◌, ◌^◌, ◌≤◌, ◌<◌}
use native.Mathlib.Nat.{zero-add, pow-suc}
use native.Mathlib.Omega.{arith}
use lib.Bits.{bit_and, bit_xor, and_comm, xor_lt, xor_step, xor_zero_r, differ}
use lib.ListN.{length, get_or, take, get_or-eq_default}
use lib.Pow.{pow_pos, pow-lt, pow_mono, shr-shr}
use Rattle.circuit.specs.Sizes.{most_inputs, most_values, mask_width}
use Rattle.circuit.specs.Gate.{Kind, bit, parity, row_value_on, truth, kind_of, nonlinear, operands}
use Rattle.circuit.specs.Lines.{Gate, Listing, gate_at, lines, reads, upto, inputs_on, truth_step, values}
use Rattle.circuit.specs.Rows.{Row, row, on_row, sum_of, mask_step, input_masks, masks, line_row}
use Rattle.circuit.specs.Rules.{done, listing_answer}
use Rattle.circuit.proofs.GateLaws.{bit-and, bit-lt, bit_above, differ-sum, differ-none, differ-lt}
use Rattle.circuit.proofs.LineLaws.{snoc_all, place, lines_length, lines_one, lines_at}
use Rattle.circuit.proofs.ParityLaws.{parity-lt, row-xor, row-none, row_input, differ_swap}
use Rattle.circuit.proofs.RuleLaws.{gate_fits, circuit_fits}
use Rattle.circuit.proofs.Upto.{upto_at, upto-length}

-- ---- a narrow input value

-- bits of an input value past its width add nothing to a row
pub row_narrow : (k i row x : ℕ) → x < 2 ^ k → row_value_on (i + k) row x ≡ row_value_on k row x
row_narrow k zero row x h = ap (λ (n : ℕ). row_value_on n row x) (zero-add k)
row_narrow k (suc i) row x h =
    let e : suc i + k ≡ suc (i + k) = omega arith in
    let l : x < 2 ^ (i + k) = omega (arith, pow_mono {i = k} {j = i + k} (omega arith)) in
    ap (λ (n : ℕ). row_value_on n row x) e
    ∙ ap (differ (row_value_on (i + k) row x)) (omega (arith, bit-and (i + k) row x, bit_above (i + k) x l))
    ∙ differ-none _
    ∙ row_narrow k i row x h

-- so a row on an input value of a table is summed over the most inputs that a circuit has
pub on_row_narrow : (r : Row) (x : ℕ) → x < most_values → on_row r x ≡ differ (row_value_on most_inputs r.mask x) r.constant
unfolding on_row
on_row_narrow r x h = ap (λ (u : ℕ). differ u r.constant) (row_narrow most_inputs (mask_width - most_inputs) r.mask x h)

-- ---- a row is known by its values

-- two numbers of n digits that have the same digits are one
bits_known : (n a b : ℕ) → a < 2 ^ n → b < 2 ^ n → ((i : ℕ) → i < n → bit i a ≡ bit i b) → a ≡ b
bits_known zero a b p q same = omega arith
bits_known (suc n) a b p q same =
    let next : (z i : ℕ) → bit i (z / 2) ≡ bit (suc i) z = λ z i. ap (λ (u : ℕ). u % 2) (shr-shr z 1 i ∙ ap (λ (k : ℕ). z / 2 ^ k) (omega arith)) in
    let halves =
    bits_known n (a / 2) (b / 2) (omega (arith, pow-suc 2 n)) (omega (arith, pow-suc 2 n))
    (λ i h. next a i ∙ same (suc i) (omega arith) ∙ sym (next b i)) in
    omega (arith, halves, same 0 (omega arith))

-- a row where no input is 1, and where input i alone is
module _ (r : Row) where
  -- a mask and an input value may change places
  turned : (x : ℕ) → on_row r x ≡ differ (row_value_on mask_width x r.mask) r.constant
  unfolding on_row
  turned x = ap (λ (u : ℕ). differ (parity mask_width u) r.constant) (and_comm r.mask x)

  on_none : on_row r 0 ≡ r.constant
  on_none = turned 0 ∙ ap (λ (u : ℕ). differ u r.constant) (row-none mask_width r.mask)

  on_one : r.constant < 2 → (i : ℕ) → i < mask_width → on_row r (2 ^ i) ≡ (bit i r.mask + r.constant) % 2
  on_one c i h =
      turned (2 ^ i)
      ∙ ap (λ (u : ℕ). differ u r.constant) (row_input mask_width i r.mask h)
      ∙ differ-sum (bit i r.mask) r.constant (bit-lt i r.mask) c

-- so two rows over n inputs that are the same on every input value are one row
pub row_known : (n : ℕ) → n ≤ mask_width → (r s : Row) → r.mask < 2 ^ n → s.mask < 2 ^ n → r.constant < 2 → s.constant < 2
    → ((x : ℕ) → x < 2 ^ n → on_row r x ≡ on_row s x) → r ≡ s
row_known n few r s rm sm rc sc same =
    let constants : r.constant ≡ s.constant = sym (on_none r) ∙ same 0 (pow_pos n) ∙ on_none s in
    let bits : (i : ℕ) → i < n → bit i r.mask ≡ bit i s.mask =
    λ i h. omega (arith, constants, on_one r rc i (omega arith), on_one s sc i (omega arith), same (2 ^ i) (pow-lt h), bit-lt i r.mask, bit-lt i s.mask) in
    ap₂ row (bits_known n r.mask s.mask rm sm bits) constants

-- ---- what bounds each line

-- what holds of f 0, f 1, .. and of what counts past the end holds at each place of the list
upto_each : {A : Type 0} (P : A → Type 0) (f : ℕ → A) (d : A) → P d → (n : ℕ) → ((k : ℕ) → k < n → P (f k)) → (i : ℕ) → P (get_or (upto f n) i d)
unfolding upto
upto_each P f d pd zero pf i = pd
upto_each P f d pd (suc n) pf i = snoc_all P (upto f n) (f n) d pd (upto_each P f d pd n (λ k h. pf k (omega arith))) (pf n (omega arith)) i

-- numbers of n digits sum to one
pub sum_small : (n : ℕ) (f : ℕ → ℕ) → ((i : ℕ) → f i < 2 ^ n) → (rs : List ℕ) → sum_of (map f rs) < 2 ^ n
unfolding sum_of
sum_small n f h [] = pow_pos n
sum_small n f h (r ∷ rs) = xor_lt n (f r) _ (h r) (sum_small n f h rs)

-- a mask has none but the inputs there are
pub masks_small : (n : ℕ) (gates : ℕ → Gate) (j i : ℕ) → get_or (masks n gates j) i 0 < 2 ^ n
unfolding lines
masks_small n gates zero i = upto_each (λ (m : ℕ). m < 2 ^ n) (λ (k : ℕ). 2 ^ k) 0 (pow_pos n) n (λ k h. pow-lt {i = k} {j = n} h) i
masks_small n gates (suc j) i =
    let p = masks n gates j in
    snoc_all (λ (m : ℕ). m < 2 ^ n) p _ 0 (pow_pos n) (masks_small n gates j) (sum_small n (λ (k : ℕ). get_or p k 0) (masks_small n gates j) (reads (gates j))) i

-- what a gate gives for values that are 0 or 1 is 0 or 1
truth-lt : (k : Kind) (a b : ℕ) → a < 2 → b < 2 → truth k a b < 2
truth-lt Kind.XOR a b p q = differ-lt a b p q
truth-lt Kind.XNOR a b p q = omega arith
truth-lt Kind.AND a b p q = omega arith
truth-lt Kind.NAND a b p q = omega arith
truth-lt Kind.OR a b p q = omega arith
truth-lt Kind.NOR a b p q = omega arith
truth-lt Kind.NOT a b p q = omega arith

-- and each value that a gate reads is, where each line's is
read_small : (f : ℕ → ℕ) → ((i : ℕ) → f i < 2) → (rs : List ℕ) (i : ℕ) → get_or (map f rs) i 0 < 2
read_small f h [] i = omega arith
read_small f h (r ∷ rs) zero = h r
read_small f h (r ∷ rs) (suc i) = read_small f h rs i

-- a line's value is 0 or 1
pub values_small : (x n : ℕ) (gates : ℕ → Gate) (j i : ℕ) → get_or (values x n gates j) i 0 < 2
unfolding lines
values_small x n gates zero i = upto_each (λ (v : ℕ). v < 2) (λ (k : ℕ). bit k x) 0 (omega arith) n (λ k h. bit-lt k x) i
values_small x n gates (suc j) i =
    let f : ℕ → ℕ = λ r. get_or (values x n gates j) r 0 in
    let small = read_small f (values_small x n gates j) (reads (gates j)) in
    snoc_all (λ (v : ℕ). v < 2) (values x n gates j) _ 0 (omega arith) (values_small x n gates j)
    (truth-lt (kind_of (gates j).kind) _ _ (small 0) (small 1)) i

-- ---- each line is its row

-- the sum of two values, each 0 or 1
two_bits : (a b : ℕ) → a < 2 → b < 2 → bit_xor a b ≡ differ a b
two_bits a b p q =
    let none : (z : ℕ) → z < 2 → z / 2 ≡ 0 = λ z h. omega arith in
    let same : (z : ℕ) → z < 2 → z % 2 ≡ z = λ z h. omega arith in
    xor_step a b ∙ (λ i. bit_xor (none a p i) (none b q i) * 2 + differ (same a p i) (same b q i)) ∙ zero-add (differ a b)

-- a row turned is the row with its constant turned
differ-not : (a c : ℕ) → a < 2 → c < 2 → 1 - differ a c ≡ differ a (1 - c)
differ-not a c p q = omega (arith, differ-sum a c p q, differ-sum a (1 - c) p (omega arith))

-- Where v of each line is its row, of mask m and constant z, on x, it is so of what a gate that is not nonlinear makes of the
-- lines that it reads.
module _ (w x : ℕ) (v m z : ℕ → ℕ) (small : (i : ℕ) → z i < 2) (each : (i : ℕ) → v i ≡ differ (row_value_on w (m i) x) (z i)) where
  -- a mask on x
  abbrev on : ℕ → ℕ
  on u = row_value_on w u x

  on_lt : (u : ℕ) → on u < 2
  on_lt u = parity-lt w (bit_and u x)

  -- two rows summed
  add_linear : (a c b d : ℕ) → c < 2 → d < 2 → differ (differ (on a) c) (differ (on b) d) ≡ differ (on (bit_xor a b)) (differ c d)
  add_linear a c b d p q = differ_swap (on a) c (on b) d (on_lt a) p (on_lt b) q ∙ ap (λ (u : ℕ). differ u (differ c d)) (sym (row-xor w a b x))

  -- some lines summed
  pub sum_linear : (rs : List ℕ) → sum_of (map v rs) ≡ differ (on (sum_of (map m rs))) (sum_of (map z rs))
  unfolding sum_of
  sum_linear [] = sym (ap (λ (u : ℕ). differ u 0) (row-none w x))
  sum_linear (r ∷ rs) =
      let u = sum_of (map m rs) in
      let y = sum_of (map z rs) in
      let y-lt = sum_small 1 z small rs in
      ap₂ bit_xor (each r) (sum_linear rs)
      ∙ two_bits _ _ (differ-lt _ _ (on_lt (m r)) (small r)) (differ-lt _ _ (on_lt u) y-lt)
      ∙ add_linear (m r) (z r) u y (small r) y-lt
      ∙ ap (differ (on (bit_xor (m r) u))) (sym (two_bits (z r) y (small r) y-lt))

  -- two lines that a gate sums
  two_linear : (a b : ℕ) → differ (v a) (v b) ≡ differ (on (sum_of (m a ∷ m b ∷ []))) (differ (z a) (z b))
  unfolding sum_of
  two_linear a b =
      ap₂ differ (each a) (each b)
      ∙ add_linear (m a) (z a) (m b) (z b) (small a) (small b)
      ∙ ap (λ (u : ℕ). differ (on (bit_xor (m a) u)) (differ (z a) (z b))) (sym (xor_zero_r (m b)))

  -- a gate of each kind, which reads as many of lines a and b as its kind has operands
  kind_linear : (k : Kind) → nonlinear k ≡ 0 → (a b : ℕ) → let rs = take (operands k) (a ∷ b ∷ []) in
      truth k (get_or (map v rs) 0 0) (get_or (map v rs) 1 0) ≡ differ (on (sum_of (map m rs))) (truth k (get_or (map z rs) 0 0) (get_or (map z rs) 1 0))
  unfolding sum_of
  kind_linear Kind.XOR h a b = two_linear a b
  kind_linear Kind.XNOR h a b =
      let u = sum_of (m a ∷ m b ∷ []) in
      ap (λ (y : ℕ). 1 - y) (two_linear a b) ∙ differ-not (on u) (differ (z a) (z b)) (on_lt u) (differ-lt (z a) (z b) (small a) (small b))
  kind_linear Kind.AND h a b = absurd (omega (arith, h))
  kind_linear Kind.NAND h a b = absurd (omega (arith, h))
  kind_linear Kind.OR h a b = absurd (omega (arith, h))
  kind_linear Kind.NOR h a b = absurd (omega (arith, h))
  kind_linear Kind.NOT h a b =
      ap (λ (y : ℕ). 1 - y) (each a) ∙ differ-not (on (m a)) (z a) (on_lt (m a)) (small a)
      ∙ ap (λ (u : ℕ). differ (on u) (1 - z a)) (sym (xor_zero_r (m a)))

  gate_linear : (k : ℕ) (q : Gate) → nonlinear (kind_of q.kind) ≡ 0
      → truth_step k q (map v (reads q)) ≡ differ (on (mask_step k q (map m (reads q)))) (truth_step k q (map z (reads q)))
  unfolding reads
  gate_linear k q h = kind_linear (kind_of q.kind) h q.left q.right

module _ (x n : ℕ) (gates : ℕ → Gate) (few : n ≤ mask_width) where
  -- a value, a mask and a constant of which the value is the row on x
  abbrev Linear : ℕ → ℕ → ℕ → Type 0
  Linear v m z = v ≡ differ (row_value_on mask_width m x) z

  -- of equal numbers
  same_linear : {v m z : ℕ} (v' m' z' : ℕ) → v' ≡ v → m' ≡ m → z' ≡ z → Linear v m z → Linear v' m' z'
  same_linear v' m' z' a b c r = a ∙ r ∙ sym (ap₂ (λ (m z : ℕ). differ (row_value_on mask_width m x) z) b c)

  -- line i of the first j gates
  abbrev At : ℕ → ℕ → Type 0
  At j i = Linear (get_or (values x n gates j) i 0) (get_or (masks n gates j) i 0) (get_or (values 0 n gates j) i 0)

  -- an input
  input_linear : (i : ℕ) → i < n → At 0 i
  unfolding lines
  input_linear i h =
      same_linear _ _ _ (upto_at (λ (k : ℕ). bit k x) 0 n i h) (upto_at (λ (k : ℕ). 2 ^ k) 0 n i h)
      (upto_at (λ (k : ℕ). bit k 0) 0 n i h ∙ bit_above i 0 (pow_pos i))
      (sym (differ-none (row_value_on mask_width (2 ^ i) x) ∙ row_input mask_width i x (omega arith)))

  -- a line that is not there
  none_linear : (j i : ℕ) → n + j ≤ i → At j i
  none_linear j i h =
      same_linear _ _ _ (gone truth_step (inputs_on n x) (upto-length (λ (k : ℕ). bit k x) n)) (gone mask_step (input_masks n) (upto-length (λ (k : ℕ). 2 ^ k) n))
      (gone truth_step (inputs_on n 0) (upto-length (λ (k : ℕ). bit k 0) n)) (sym (ap (λ (u : ℕ). differ u 0) (row-none mask_width x))) where
        gone : (step : ℕ → Gate → List ℕ → ℕ) (ins : List ℕ) → length ins ≡ n → get_or (lines step 0 ins gates j) i 0 ≡ 0
        gone step ins e = get_or-eq_default (lines step 0 ins gates j) 0 {n = i} (omega (arith, lines_length step 0 ins gates j))

  -- where no gate is nonlinear, as under a matrix, every line is linear: its value on an input value is its row on it
  pub lines_linear : (j : ℕ) → ((k : ℕ) → k < j → nonlinear (kind_of (gates k).kind) ≡ 0)
      → (i : ℕ) → get_or (values x n gates j) i 0 ≡ differ (row_value_on mask_width (get_or (masks n gates j) i 0) x) (get_or (values 0 n gates j) i 0)
  lines_linear zero linear i = ⊎_elim (input_linear i) (λ p. none_linear 0 i (⊎_elim (λ e. omega arith) (λ l. omega arith) p)) (place i n)
  lines_linear (suc j) linear i =
      let r = lines_linear j (λ k h. linear k (omega arith)) in
      let lx = upto-length (λ (k : ℕ). bit k x) n in
      let lm = upto-length (λ (k : ℕ). 2 ^ k) n in
      let lz = upto-length (λ (k : ℕ). bit k 0) n in
      ⊎_elim
      (λ h. same_linear _ _ _ (lines_one truth_step 0 (inputs_on n x) gates j i (omega arith)) (lines_one mask_step 0 (input_masks n) gates j i (omega arith))
      (lines_one truth_step 0 (inputs_on n 0) gates j i (omega arith)) (r i))
      (⊎_elim
      (λ e. same_linear _ _ _ (lines_at truth_step 0 (inputs_on n x) gates j i (omega arith)) (lines_at mask_step 0 (input_masks n) gates j i (omega arith))
      (lines_at truth_step 0 (inputs_on n 0) gates j i (omega arith))
      (gate_linear mask_width x (λ (k : ℕ). get_or (values x n gates j) k 0) (λ (k : ℕ). get_or (masks n gates j) k 0) (λ (k : ℕ). get_or (values 0 n gates j) k 0)
      (values_small 0 n gates j) r j (gates j) (linear j (omega arith))))
      (λ l. none_linear (suc j) i (omega arith)))
      (place i (n + j))

-- in a circuit that may stand under a matrix every line is linear: its value on an input value is its row on it
pub matrix_linear : (c : Listing) → listing_answer true c ≡ done
    → (x i : ℕ) → get_or (values x c.inputs (gate_at c) (length c.gates)) i 0 ≡ on_row (line_row c i) x
unfolding on_row
matrix_linear c ok x i =
    let f = circuit_fits true c ok in
    lines_linear x c.inputs (gate_at c) (omega (arith, f.shape.n_most)) (length c.gates)
    (λ k h. (gate_fits true (c.inputs + k) (gate_at c k) (f.gates k h)).linear refl) i

-- Laws of parity, and of a row of a matrix on an input: rows add up, and the row of one input alone is that input. Assumes nothing.
use mathlib.Core.Path.{◌≡◌, refl, sym, ap, ap₂, ◌∙◌}
use Prim.Native.Nat.{ℕ, zero, suc, ◌+◌, ◌-◌, ◌*◌, ◌/◌, ◌%◌, ◌^◌, ◌≤◌, ◌<◌, min}
use native.Mathlib.Decide.{ℕ_discrete}
use native.Mathlib.Nat.{add-zero, one-mul, pow-suc}
use native.Mathlib.Omega.{arith}
use lib.Bits.{bit_and, bit_xor, differ}
use lib.Pow.{high, pow_pos, pow-lt, pow-add}
use Rattle.circuit.specs.Gate.{bit, parity, row_value_on}
use Rattle.circuit.proofs.GateLaws.{bit-and, bit-xor, bit-lt, bit_above, differ-sum, differ-none, differ-lt}

pub parity-lt : (n y : ℕ) → parity n y < 2
parity-lt zero y = omega arith
parity-lt (suc n) y = differ-lt (parity n y) (bit n y) (parity-lt n y) (bit-lt n y)

-- ---- one input more: the row has it, or not

pub row_has : (n row x : ℕ) → bit n row ≡ 1 → row_value_on (suc n) row x ≡ differ (row_value_on n row x) (bit n x)
row_has n row x h = ap (differ (row_value_on n row x)) (omega (arith, bit-and n row x, bit-lt n x))

pub row_lacks : (n row x : ℕ) → bit n row ≡ 0 → row_value_on (suc n) row x ≡ row_value_on n row x
row_lacks n row x h = ap (differ (row_value_on n row x)) (omega (arith, bit-and n row x)) ∙ differ-none _

-- ---- rows add up

-- four bits, summed in pairs
differ_four : (a b c d : ℕ) → a < 2 → b < 2 → c < 2 → d < 2 → differ (differ a b) (differ c d) ≡ (a + b + (c + d)) % 2
differ_four a b c d p q r s =
    ap₂ differ (differ-sum a b p q) (differ-sum c d r s)
    ∙ differ-sum ((a + b) % 2) ((c + d) % 2) (omega arith) (omega arith)
    ∙ odd (a + b) (c + d)
  where
    odd : (x y : ℕ) → (x % 2 + y % 2) % 2 ≡ (x + y) % 2
    odd x y = omega arith

pub differ_swap : (a b c d : ℕ) → a < 2 → b < 2 → c < 2 → d < 2 → differ (differ a b) (differ c d) ≡ differ (differ a c) (differ b d)
differ_swap a b c d p q r s = omega (arith, differ_four a b c d p q r s, differ_four a c b d p r q s)

-- a digit of a sum, of those that x has
min-differ : (a b x : ℕ) → a < 2 → b < 2 → x < 2 → min (differ a b) x ≡ differ (min a x) (min b x)
min-differ a b x p q r = omega (arith, differ-sum a b p q, differ-sum (min a x) (min b x) (omega arith) (omega arith))

pub row-xor : (n a b x : ℕ) → row_value_on n (bit_xor a b) x ≡ differ (row_value_on n a x) (row_value_on n b x)
row-xor zero a b x = refl
row-xor (suc n) a b x =
    let u = bit_and a x in
    let v = bit_and b x in
    let e : bit n (bit_and (bit_xor a b) x) ≡ differ (bit n u) (bit n v) =
    bit-and n (bit_xor a b) x
    ∙ ap (λ (y : ℕ). min y (bit n x)) (bit-xor n a b)
    ∙ min-differ (bit n a) (bit n b) (bit n x) (bit-lt n a) (bit-lt n b) (bit-lt n x)
    ∙ sym (ap₂ differ (bit-and n a x) (bit-and n b x)) in
    ap₂ differ (row-xor n a b x) e
    ∙ differ_swap (row_value_on n a x) (row_value_on n b x) (bit n u) (bit n v) (parity-lt n u) (parity-lt n v) (bit-lt n u) (bit-lt n v)

-- ---- the row of no input, and of one

pub row-none : (n x : ℕ) → row_value_on n 0 x ≡ 0
row-none zero x = refl
row-none (suc n) x = row_lacks n 0 x (bit_above n 0 (pow_pos n)) ∙ row-none n x

-- the digits of 2 ^ i: the one at i, and none before it
bit_same : (i : ℕ) → bit i (2 ^ i) ≡ 1
bit_same i = ap (λ (u : ℕ). u / 2 ^ i % 2) (sym (one-mul (2 ^ i)) ∙ sym (add-zero (1 * 2 ^ i))) ∙ ap (λ (u : ℕ). u % 2) (high 1 i (pow_pos i))

bit_under : (i j : ℕ) → j < i → bit j (2 ^ i) ≡ 0
bit_under i j h =
    let k = i - suc j in
    let e : i ≡ suc k + j = omega arith in
    ap (λ (u : ℕ). 2 ^ u / 2 ^ j % 2) e
    ∙ ap (λ (u : ℕ). u / 2 ^ j % 2) (pow-add 2 (suc k) j ∙ sym (add-zero (2 ^ suc k * 2 ^ j)))
    ∙ ap (λ (u : ℕ). u % 2) (high (2 ^ suc k) j (pow_pos j))
    ∙ omega (arith, pow-suc 2 k)

row_below : (j i x : ℕ) → j ≤ i → row_value_on j (2 ^ i) x ≡ 0
row_below zero i x h = refl
row_below (suc j) i x h = row_lacks j (2 ^ i) x (bit_under i j h) ∙ row_below j i x (omega arith)

pub row_input : (n i x : ℕ) → i < n → row_value_on n (2 ^ i) x ≡ bit i x
row_input zero i x h = absurd (omega arith)
row_input (suc n) i x h =
    elim (ℕ_discrete i n) [
      | yes e ↦
          ap (λ (u : ℕ). row_value_on (suc n) (2 ^ u) x) e
          ∙ row_has n (2 ^ n) x (bit_same n)
          ∙ ap (λ (u : ℕ). differ u (bit n x)) (row_below n n x (omega arith))
          ∙ ap (λ (u : ℕ). bit u x) (sym e)
      | no e ↦ row_lacks n (2 ^ i) x (bit_above n (2 ^ i) (pow-lt (omega arith))) ∙ row_input n i x (omega arith)
    ]

-- Laws of words made bit by bit: numbers packed from bits, and what a row or a column of the target wants. Assumes nothing.
use mathlib.Core.Path.{◌≡◌, ap, ◌∙◌, sym}
use mathlib.Core.Bool.{Bool, cond}
use mathlib.Core.Logic.{⊎_elim}
use Prim.Native.Nat.{ℕ, zero, suc, ◌≤◌, ◌<◌, ◌-◌, ◌+◌, ◌*◌, ◌/◌, ◌%◌, ◌^◌}
use native.Mathlib.Omega.{arith}
use native.Mathlib.Numerals.{add-one}
use native.Mathlib.Nat.{add_comm, pow-suc, mod-eq_of_lt, add-mul-mod_self_right, eq-or-lt_of_le}
use lib.Dec.{eqb}
use lib.ListN.{get_or}
use lib.Pow.{pow-add, pow_mono, high, field}
use borrow.Author.Tests.{eq-eqb, ne_eqb}
use Rattle.circuit.specs.Gate.{Kind, bit, words_of, no_words}
use Rattle.circuit.specs.Lines.{input_words}
use Rattle.targets.specs.Wanted.{packed, mask_words}

-- ---- numbers packed from bits

times_bit : (d x : ℕ) → d < 2 → d * x ≤ x
times_bit zero x h = omega arith
times_bit (suc zero) x h = omega arith
times_bit (suc (suc d)) x h = absurd (omega arith)

-- what lies from bit k on does not change a bit below k
bit_below : (i k x y : ℕ) → i < k → bit i (x + y * 2 ^ k) ≡ bit i x
bit_below i k x y h =
    let e : k ≡ (k - (1 + i)) + (1 + i) = omega arith in
    let p : y * 2 ^ k ≡ (y * 2 ^ (k - (1 + i))) * 2 ^ (1 + i) = ap (λ (z : ℕ). y * 2 ^ z) e ∙ ap (λ (z : ℕ). y * z) (pow-add 2 (k - (1 + i)) (1 + i)) ∙ omega arith in
    sym (field (x + y * 2 ^ k) 1 i)
    ∙ ap (λ (z : ℕ). z / 2 ^ i) (ap (λ (z : ℕ). (x + z) % 2 ^ (1 + i)) p ∙ add-mul-mod_self_right x (y * 2 ^ (k - (1 + i))) (2 ^ (1 + i)))
    ∙ field x 1 i

module _ (f : ℕ → ℕ) (bits : (i : ℕ) → f i < 2) where
  pub packed_lt : (k : ℕ) → packed f k < 2 ^ k
  packed_lt zero = omega arith
  packed_lt (suc k) = omega (arith, packed_lt k, times_bit (f k) (2 ^ k) (bits k), pow-suc 2 k)

  pub bit-packed : (k i : ℕ) → i < k → bit i (packed f k) ≡ f i
  bit-packed zero i h = absurd (omega arith)
  bit-packed (suc k) i h =
      ⊎_elim
      (λ e. ap (λ (x : ℕ). bit x (packed f (suc k))) e ∙ top ∙ ap f (sym e))
      (λ l. bit_below i k (packed f k) (f k) l ∙ bit-packed k i l)
      (eq-or-lt_of_le {n = i} {m = k} (omega arith)) where
        top : bit k (packed f (suc k)) ≡ f k
        top = ap (λ (x : ℕ). x / 2 ^ k % 2) (add_comm (packed f k) (f k * 2 ^ k)) ∙ ap (λ (x : ℕ). x % 2) (high (f k) k (packed_lt k)) ∙ mod-eq_of_lt (bits k)

  pub packed_fits : (k : ℕ) → k ≤ 64 → packed f k < 2 ^ 64
  packed_fits k h = omega (arith, packed_lt k, pow_mono {i = k} {j = 64} h)

-- the first bit apart
packed_front : (f : ℕ → ℕ) (k : ℕ) → packed f (suc k) ≡ f 0 + 2 * packed (λ (i : ℕ). f (suc i)) k
packed_front f zero = omega arith
packed_front f (suc k) =
    let e : f (suc k) * 2 ^ suc k ≡ 2 * (f (suc k) * 2 ^ k) = ap (λ (z : ℕ). f (suc k) * z) (pow-suc 2 k) ∙ omega arith in
    omega (arith, packed_front f k, e)

-- the bits from one on, and one more before them: the word is doubled
pub packed_before : (f : ℕ → ℕ) (b w : ℕ) → 0 < b → b ≤ 64 → w ≡ packed (λ (i : ℕ). f (b + i)) (64 - b)
    → w + w + f (b - 1) ≡ packed (λ (i : ℕ). f (b - 1 + i)) (64 - (b - 1))
packed_before f b w h l e =
    let k : 64 - (b - 1) ≡ suc (64 - b) = omega arith in
    let z : b - 1 + 0 ≡ b - 1 = omega arith in
    let s : (i : ℕ) → b - 1 + suc i ≡ b + i = λ i. omega arith in
    let rest : packed (λ (i : ℕ). f (b - 1 + suc i)) (64 - b) ≡ w = (λ t. packed (λ (i : ℕ). f (s i t)) (64 - b)) ∙ sym e in
    let front = packed_front (λ (i : ℕ). f (b - 1 + i)) (64 - b) in
    omega (arith, ap (packed (λ (i : ℕ). f (b - 1 + i))) k, front, ap f z, rest)

-- ---- what a mask sums

module _ (mask i : ℕ) where
  mask_suc : mask_words (i + 1) mask ≡ cond (eqb (bit i mask) 1) (words_of Kind.XOR (mask_words i mask) (get_or input_words i no_words)) (mask_words i mask)
  mask_suc = ap (λ (k : ℕ). mask_words k mask) (add-one i)

  pub mask_with : bit i mask ≡ 1 → words_of Kind.XOR (mask_words i mask) (get_or input_words i no_words) ≡ mask_words (i + 1) mask
  mask_with e =
      sym (mask_suc ∙ ap (λ (t : Bool). cond t (words_of Kind.XOR (mask_words i mask) (get_or input_words i no_words)) (mask_words i mask)) (eq-eqb (bit i mask) 1 e))

  pub mask_without : (bit i mask ≡ 1 → ⊥) → mask_words i mask ≡ mask_words (i + 1) mask
  mask_without e =
      sym (mask_suc ∙ ap (λ (t : Bool). cond t (words_of Kind.XOR (mask_words i mask) (get_or input_words i no_words)) (mask_words i mask)) (ne_eqb (bit i mask) 1 e))

-- A line's values in bytes: bits packed from a word are a part of the word. Assumes nothing.
use mathlib.Core.Path.{◌≡◌, refl, ap, ap₂, ◌∙◌, sym}
use mathlib.Core.List.{[], ◌∷◌}
use Prim.Native.Nat.{ℕ, zero, suc, ◌+◌, ◌*◌, ◌/◌, ◌%◌, ◌^◌, ◌≤◌, ◌<◌}
use native.Mathlib.Omega.{arith}
use native.Mathlib.Nat.{mod-one, add_comm, one-mul}
use lib.ListN.{get_or}
use lib.Pow.{pow_mono, shr-shr, mod-pow-add, shl_exact}
use Rattle.circuit.specs.declared.Words.{Words}
use Rattle.circuit.specs.Sizes.{most_inputs, most_values}
use Rattle.circuit.specs.Gate.{bit, value_in}
use Rattle.targets.specs.Wanted.{packed}
use Rattle.talk.specs.Texts.{value_bits, byte_of}

-- a shift of 1
pub one_shifted : (k : ℕ) → k ≤ 8 → (1 * 2 ^ k) % 2 ^ 64 ≡ 2 ^ k
one_shifted k h = shl_exact 1 k 64 (omega arith) (omega arith) ∙ one-mul (2 ^ k)

-- how many values there are at most
pub few_values : (n : ℕ) → n ≤ most_inputs → 2 ^ n ≤ most_values
few_values n h = pow_mono {i = n} {j = most_inputs} h

-- bits that agree one by one are packed alike
pub packed_same : (f h : ℕ → ℕ) (c : ℕ) → ((b : ℕ) → b < c → f b ≡ h b) → packed f c ≡ packed h c
packed_same f h zero e = refl
packed_same f h (suc c) e = ap₂ ◌+◌ (packed_same f h c (λ b l. e b (omega arith))) (ap (λ (x : ℕ). x * 2 ^ c) (e c (omega arith)))

-- c bits of a word from bit k on
packed_word : (x k c : ℕ) → packed (λ (b : ℕ). bit (k + b) x) c ≡ x / 2 ^ k % 2 ^ c
packed_word x k zero = sym (mod-one (x / 2 ^ k))
packed_word x k (suc c) =
    let y = x / 2 ^ k in
    let e : 1 + c ≡ suc c = omega arith in
    let top : bit (k + c) x ≡ y / 2 ^ c % 2 = ap (λ (z : ℕ). z % 2) (sym (shr-shr x k c)) in
    ap₂ (λ (a d : ℕ). a + d * 2 ^ c) (packed_word x k c) top ∙ add_comm (y % 2 ^ c) ((y / 2 ^ c % 2) * 2 ^ c) ∙ sym (mod-pow-add y 1 c) ∙ ap (λ (z : ℕ). y % 2 ^ z) e

-- a byte has 8 values at most
bits_few : (n : ℕ) → value_bits n ≤ 8
bits_few n = omega arith

-- byte j of a line's words
pub byte_is : (w : Words) (n j end : ℕ) → end ≡ 2 ^ value_bits n
    → get_or (w.w0 ∷ w.w1 ∷ w.w2 ∷ w.w3 ∷ []) (j / 8) 0 / 2 ^ (8 * (j % 8)) % end ≡ byte_of (value_in w) n j
byte_is w n j end e =
    let ws = w.w0 ∷ w.w1 ∷ w.w2 ∷ w.w3 ∷ [] in
    ap (λ (z : ℕ). get_or ws (j / 8) 0 / 2 ^ (8 * (j % 8)) % z) e
    ∙ sym (packed_word (get_or ws (j / 8) 0) (8 * (j % 8)) (value_bits n))
    ∙ packed_same _ (λ (b : ℕ). value_in w (8 * j + b)) (value_bits n) (λ b l.
    let small : b < 8 = omega (arith, bits_few n) in
    let place : 8 * (j % 8) + b ≡ (8 * j + b) % 64 = omega arith in
    let word : j / 8 ≡ (8 * j + b) / 64 = omega arith in
    ap₂ (λ (i k : ℕ). bit i (get_or ws k 0)) place word)

-- either way a byte
pub end_fits : (n : ℕ) → 2 ^ value_bits n ≤ 256
end_fits n = pow_mono {i = value_bits n} {j = 8} (bits_few n)

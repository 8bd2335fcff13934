-- Four words looked at one after the other: the input values from 64 k on are the bits of word k. Assumes nothing.
use mathlib.Core.Path.{◌≡◌, refl, ap, ◌∙◌, sym}
use mathlib.Core.Bool.{Bool}
use mathlib.Core.List.{[], ◌∷◌}
use Prim.Native.Nat.{ℕ, zero, suc, ◌^◌, ◌≤◌, ◌<◌, ◌+◌, ◌*◌, ◌/◌, ◌%◌}
use native.Mathlib.Omega.{arith}
use native.Mathlib.Nat.{add-zero, div-eq_of_lt}
use lib.Dec.{eqb}
use lib.ListN.{get_or}
use lib.Pow.{pow_pos}
use borrow.Author.Tests.{ne_eqb, eq-eqb}
use Rattle.std.specs.Int.{trailing_zeros, w64}
use Rattle.std.specs.Int.Count.{trailing_of_zero}
use Rattle.std.proofs.lemmas.Nat.Bits.{bit_at-trailing_zeros}
use Rattle.circuit.specs.declared.Words.{Words}
use Rattle.circuit.specs.Gate.{bit, value_in}
use Rattle.bench.specs.State.{least}
use Rattle.report.proofs.Smallest.{least_same, least_shift, least-none, least_is, least_here, least-past}

-- the lowest bit that is set in a word, or 64
abbrev pub lowest : ℕ → ℕ
lowest v = least (λ (i : ℕ). eqb (bit i v) 1) 64 0

pub none-lowest : (v : ℕ) → v ≡ 0 → 64 ≡ lowest v
none-lowest v e =
    let z : (i : ℕ) → bit i v ≡ 0 = λ i. ap (bit i) e ∙ ap (λ (y : ℕ). y % 2) (div-eq_of_lt (pow_pos i)) in
    sym (least-none (λ (i : ℕ). eqb (bit i v) 1) 64 0 (λ i l u. ne_eqb (bit i v) 1 (λ q. omega (arith, z i, q))))

-- it is how many bits stand below the lowest that is set
pub trailing-lowest : (v : ℕ) → v < 2 ^ 64 → trailing_zeros w64 v ≡ lowest v
trailing-lowest zero h = trailing_of_zero 64 ∙ none-lowest 0 refl
trailing-lowest (suc u) h =
    let v = suc u in
    let t = bit_at-trailing_zeros w64 v (omega arith) h in
    let p : ℕ → Bool = λ i. eqb (bit i v) 1 in
    sym (least_is p 64 0 (trailing_zeros w64 v) (omega arith) t.0 (eq-eqb _ 1 t.1) (λ j l k. ne_eqb (bit j v) 1 (λ q. omega (arith, t.2 j k, q))))

module _ (w : Words) where
  abbrev pub word : ℕ → ℕ
  word k = get_or (w.w0 ∷ w.w1 ∷ w.w2 ∷ w.w3 ∷ []) k 0

  abbrev pub is_set : ℕ → Bool
  is_set x = eqb (value_in w x) 1

  pub value-at : (k i x : ℕ) → i < 64 → x ≡ 64 * k + i → bit i (word k) ≡ value_in w x
  value-at k i x h e =
      let q : k ≡ x / 64 = omega arith in
      let r : i ≡ x % 64 = omega arith in
      λ t. bit (r t) (word (q t))

  -- the lowest in word k
  pub block : (k : ℕ) → 64 * k + lowest (word k) ≡ least is_set 64 (64 * k)
  block k =
      sym (ap (least is_set 64) (sym (add-zero (64 * k)))
      ∙ least_shift is_set (64 * k) 64 0
      ∙ ap (λ (r : ℕ). 64 * k + r)
      (least_same (λ (i : ℕ). is_set (64 * k + i)) (λ (i : ℕ). eqb (bit i (word k)) 1) 64 0
      (λ i l u. ap (λ (v : ℕ). eqb v 1) (sym (value-at k i (64 * k + i) u refl)))))

  -- it is found in word k, or looked for past it
  pub block_here : (k c : ℕ) → lowest (word k) < 64 → 64 * k + lowest (word k) ≡ least is_set (64 + c) (64 * k)
  block_here k c h = block k ∙ sym (least_here is_set 64 c (64 * k) (omega (arith, block k)))

  pub block-past : (k c : ℕ) → 64 ≤ lowest (word k) → least is_set c (64 * k + 64) ≡ least is_set (64 + c) (64 * k)
  block-past k c h = sym (least-past is_set 64 c (64 * k) (omega (arith, block k)))

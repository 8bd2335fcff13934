-- Laws of the weights and loads of all masks, in one number each: an input more doubles the masks, and the number gives both back.
use mathlib.Core.List.{List}
use mathlib.Core.Path.{◌≡◌, sym, ap, ◌∙◌, subst}
use Prim.Native.Nat.{ℕ, ◌+◌, ◌-◌, ◌/◌, ◌%◌, ◌^◌, ◌≤◌, ◌<◌}
use native.Mathlib.Decide.{ℕ_discrete, dec_lt}
use native.Mathlib.Omega.{arith}
use lib.ListN.{length, get_or, set, length-set, replicate, length-replicate, get_or-replicate}
use lib.Pow.{pow_mono}
use lib.Seq.{get_or-set_same, get_or-set_other}
use Rattle.distance.specs.Base.{Shallow, weight, load}
use Rattle.distance.proofs.FirstTable.{load_lt}
use Rattle.distance.proofs.Weight.{weight-le, weight_out, weight_in, load_out, load_in}
use Rattle.builder.specs.Kept.{mask_sum, MaskSums}
use Rattle.builder.proofs.Refusals.{rest_small}

-- no input: the one mask is 0
pub sums_none : (ar : List ℕ) → MaskSums 0 ar (replicate 256 0)
sums_none ar = let z : ℕ = 0 in record { long = length-replicate 256 z; at = λ t h. get_or-replicate 256 t z z (omega arith) }

-- ---- an input more, half way: the masks with it are done below t
pub record Half (i : ℕ) (ar : List ℕ) (top c t : ℕ) (sums : List ℕ) : Type 0 where
  pub long : length sums ≡ 256
  pub low : (u : ℕ) → u < top → get_or sums u 0 ≡ mask_sum i ar u
  pub high : (u : ℕ) → u < t → get_or sums (top + u) 0 ≡ mask_sum i ar u + c

pub half_start : (i : ℕ) (ar : List ℕ) (top c : ℕ) (sums : List ℕ) → top ≡ 2 ^ i → MaskSums i ar sums → Half i ar top c 0 sums
half_start i ar top c sums e m = record { long = m.long; low = λ u h. m.at u (omega (arith, e, h)); high = λ u h. absurd (omega arith) }

pub half_more : (i : ℕ) (ar : List ℕ) (top c t : ℕ) (sums : List ℕ) → top ≤ 128 → t < top → Half i ar top c t sums
    → Half i ar top c (t + 1) (set sums (top + t) (get_or sums t 0 + c))
half_more i ar top c t sums few h p =
    let v = get_or sums t 0 + c in
    record {
      long = length-set sums (top + t) v ∙ p.long;
      low = λ u k. get_or-set_other sums (top + t) u v 0 (λ z. omega (arith, k, z)) ∙ p.low u k;
      high = λ u k.
          elim (ℕ_discrete u t) [
            | yes e ↦
                subst (λ (x : ℕ). get_or (set sums (top + t) v) (top + x) 0 ≡ mask_sum i ar x + c) (sym e)
                (get_or-set_same sums (top + t) v 0 (omega (arith, p.long)) ∙ ap (λ (x : ℕ). x + c) (p.low t h))
            | no e ↦ get_or-set_other sums (top + t) (top + u) v 0 (λ z. e (omega (arith, z))) ∙ p.high u (omega arith)
          ];
    }

pub half_end : (i : ℕ) (ar : List ℕ) (top c t : ℕ) (sums : List ℕ) → top ≡ 2 ^ i → c ≡ 1048576 + 2 ^ get_or ar i 0 → top ≤ t → Half i ar top c t sums → MaskSums (i + 1) ar sums
half_end i ar top c t sums e f all p =
    record {
      long = p.long;
      at = λ u h.
          elim (dec_lt u (2 ^ i)) [
            | yes k ↦ omega (arith, p.low u (omega (arith, e, k)), weight_out i u k, load_out i ar u k)
            | no k ↦
                let s : 2 ^ i ≤ u = omega arith in
                let r = rest_small i u h s in
                let g : top + (u - 2 ^ i) ≡ u = omega (arith, e, s) in
                let q = p.high (u - 2 ^ i) (omega (arith, e, r, all)) in
                let w = weight_in i u s h in
                let l = load_in i ar u s h in
                omega (arith, ap (λ (x : ℕ). get_or sums x 0) g, q, w, l, f)
          ];
    }

-- ---- no sum is great, and it gives back both parts
module _ (n : ℕ) (ar : List ℕ) (t x : ℕ) (few : n ≤ 8) (early : Shallow ar) (below : t < 2 ^ n) (e : x ≡ mask_sum n ar t) where
  pub sum_most : x ≤ 8650752
  sum_most = omega (arith, e, weight-le n t below, load_lt n ar t few early below)

  pub sum-weight : x / 1048576 ≡ weight n t
  sum-weight = omega (arith, e, load_lt n ar t few early below)

  pub sum-load : x % 1048576 ≡ load n ar t
  sum-load = omega (arith, e, load_lt n ar t few early below)

-- a mask of 8 digits is a byte, and the input above 7 others has at most the mask 128
pub byte : (n t : ℕ) → n ≤ 8 → t < 2 ^ n → t < 256
byte n t few h = omega (arith, pow_mono few)

pub top_most : (i top : ℕ) → i < 8 → top ≡ 2 ^ i → top ≤ 128
top_most i top h e = let k : i ≤ 7 = omega arith in omega (arith, e, pow_mono k)

-- The table of the inputs at their arrivals: the only set that makes a mask is that of the mask's own inputs, so the entry of its weight is its load, and every other entry is far.
use mathlib.Core.List.{List}
use mathlib.Core.Path.{◌≡◌, sym, ap, ◌∙◌, subst}
use Prim.Native.Nat.{ℕ, ◌+◌, ◌*◌, ◌^◌, ◌≤◌, ◌<◌}
use native.Mathlib.Decide.{ℕ_discrete, dec_lt}
use native.Mathlib.Omega.{arith}
use borrow.Author.Tests.{le-leb}
use lib.ListN.{length, get_or, set, length-set, replicate, length-replicate, get_or-replicate, get_or-eq_default}
use lib.Pow.{pow_mono}
use lib.Seq.{get_or-set_same, get_or-set_other}
use Rattle.distance.specs.Base.{Line, SetOf, Shallow, arriving, weight, load}
use Rattle.distance.specs.Table.{least_sum, far, Holds}
use Rattle.distance.proofs.Fewest.{found}
use Rattle.distance.proofs.Least.{can-least, least-le}
use Rattle.distance.proofs.Weight.{units, heavy, load-le, weight-le}

-- a least sum below far is that of a set
least-set : (k t : ℕ) (ls : List Line) → least_sum k t ls < far → SetOf ls k t (least_sum k t ls)
least-set k t ls h = found ls k t (least_sum k t ls) (can-least k t (least_sum k t ls) ls h ∙ le-leb (least_sum k t ls) (least_sum k t ls) (omega arith))

-- a set of arriving inputs with mask t and k lines is the set of t's inputs
record Own (n : ℕ) (ds : List ℕ) (k t b : ℕ) : Type 0 where
  small : t < 2 ^ n
  size : k ≡ weight n t
  cost : load n ds t ≤ b

own : (n : ℕ) (ds : List ℕ) (k t b : ℕ) → SetOf (arriving n ds) k t b → Own n ds k t b
own n ds k t b s =
    let u = units n ds s.chosen in
    record {
      small = omega (arith, u.small, s.mask);
      size = sym s.size ∙ u.size ∙ ap (weight n) s.mask;
      cost = omega (arith, u.cost, ap (load n ds) s.mask, s.cost);
    }

-- every size but the weight has no set, and every mask from 2 ^ n on
pub first_other : (n : ℕ) (ds : List ℕ) (k t : ℕ) → (k ≡ weight n t → ⊥) → least_sum k t (arriving n ds) ≡ far
first_other n ds k t ne =
    elim (dec_lt (least_sum k t (arriving n ds)) far) [
      | yes h ↦ absurd (ne (own n ds k t (least_sum k t (arriving n ds)) (least-set k t (arriving n ds) h)).size)
      | no h ↦ omega (arith, least-le k t (arriving n ds))
    ]

pub first_above : (n : ℕ) (ds : List ℕ) (k t : ℕ) → 2 ^ n ≤ t → least_sum k t (arriving n ds) ≡ far
first_above n ds k t a =
    elim (dec_lt (least_sum k t (arriving n ds)) far) [
      | yes h ↦ absurd (omega (arith, (own n ds k t (least_sum k t (arriving n ds)) (least-set k t (arriving n ds) h)).small))
      | no h ↦ omega (arith, least-le k t (arriving n ds))
    ]

-- the load of a row over 8 inputs or fewer is below far
pub load_lt : (n : ℕ) (ds : List ℕ) (t : ℕ) → n ≤ 8 → Shallow ds → t < 2 ^ n → load n ds t ≤ 262144
load_lt n ds t few s h = omega (arith, load-le n ds t h s)

-- the weight has one set, and it costs the load
pub first_own : (n : ℕ) (ds : List ℕ) (t : ℕ) → n ≤ 8 → Shallow ds → t < 2 ^ n → least_sum (weight n t) t (arriving n ds) ≡ load n ds t
first_own n ds t few s h =
    let most = load_lt n ds t few s h in
    let up = heavy n ds t h in
    let o = own n ds (weight n t) t (least_sum (weight n t) t (arriving n ds)) (least-set (weight n t) t (arriving n ds) (omega (arith, most, up))) in
    omega (arith, up, o.cost)

-- ---- the array, filled mask by mask: the entries of the masks below j are in, and all others far
pub record FirstPart (n : ℕ) (ds : List ℕ) (j : ℕ) (h : List ℕ) : Type 0 where
  pub done : (k t : ℕ) → k < 9 → t < 256 → t < j → get_or h (k * 256 + t) 0 ≡ least_sum k t (arriving n ds)
  pub rest : (k t : ℕ) → k < 9 → t < 256 → j ≤ t → get_or h (k * 256 + t) 0 ≡ far
  pub cap : (i : ℕ) → get_or h i 0 ≤ far
  pub long : length h ≡ 2304

replicate-le : (m i : ℕ) → get_or (replicate m far) i 0 ≤ far
replicate-le m i =
    elim (dec_lt i m) [
      | yes p ↦ omega (arith, get_or-replicate m i far 0 p)
      | no p ↦ omega (arith, get_or-eq_default (replicate m far) 0 {n = i} (omega (arith, length-replicate m far)))
    ]

pub first_start : (n : ℕ) (ds : List ℕ) → FirstPart n ds 0 (replicate 2304 far)
first_start n ds =
    record {
      done = λ k t p q r. absurd (omega arith);
      rest = λ k t p q r. get_or-replicate 2304 (k * 256 + t) far 0 (omega arith);
      cap = replicate-le 2304;
      long = length-replicate 2304 far;
    }

-- one mask more
module _ (n : ℕ) (ds : List ℕ) (j : ℕ) (h : List ℕ) (few : n ≤ 8) (early : Shallow ds) (below : j < 2 ^ n) (p : FirstPart n ds j h) where
  byte : j < 256
  byte = omega (arith, pow_mono few)

  size : weight n j ≤ 8
  size = omega (arith, weight-le n j below)

  abbrev at : ℕ
  at = weight n j * 256 + j

  abbrev next : List ℕ
  next = set h at (load n ds j)

  here : (k t : ℕ) → k ≡ weight n j → t ≡ j → get_or next (k * 256 + t) 0 ≡ least_sum k t (arriving n ds)
  here k t e f =
      ap (λ (x : ℕ). get_or next x 0) (let g : k * 256 + t ≡ at = omega (arith, e, f) in g)
      ∙ get_or-set_same h at (load n ds j) 0 (omega (arith, p.long, byte, size))
      ∙ sym (first_own n ds j few early below)
      ∙ (λ i. least_sum (sym e i) (sym f i) (arriving n ds))

  away : (k t : ℕ) → (k * 256 + t ≡ at → ⊥) → get_or next (k * 256 + t) 0 ≡ get_or h (k * 256 + t) 0
  away k t ne = get_or-set_other h at (k * 256 + t) (load n ds j) 0 ne

  pub first_more : FirstPart n ds (j + 1) next
  first_more =
      record {
        done = λ k t a b c.
            elim (ℕ_discrete t j) [
              | yes f ↦
                  elim (ℕ_discrete k (weight n j)) [
                    | yes e ↦ here k t e f
                    | no e ↦
                        away k t (λ z. e (omega (arith, byte, b, z, f))) ∙ p.rest k t a b (omega arith) ∙ sym (first_other n ds k t (λ z. e (z ∙ ap (weight n) f)))
                  ]
              | no f ↦ away k t (λ z. f (omega (arith, byte, b, z))) ∙ p.done k t a b (omega arith)
            ];
        rest = λ k t a b c. away k t (λ z. omega (arith, byte, b, z, c)) ∙ p.rest k t a b (omega arith);
        cap = λ i.
            elim (ℕ_discrete i at) [
              | yes e ↦
                  omega (arith, ap (λ (x : ℕ). get_or next x 0) e, get_or-set_same h at (load n ds j) 0 (omega (arith, p.long, byte, size)), load_lt n ds j few early below)
              | no e ↦ omega (arith, get_or-set_other h at i (load n ds j) 0 e, p.cap i)
            ];
        long = length-set h at (load n ds j) ∙ p.long;
      }

-- the same of a weight and a load by other names
pub first_next : (n : ℕ) (ds : List ℕ) (j : ℕ) (h : List ℕ) (w l : ℕ) → n ≤ 8 → Shallow ds → j < 2 ^ n → w ≡ weight n j → l ≡ load n ds j → FirstPart n ds j h
    → FirstPart n ds (j + 1) (set h (w * 256 + j) l)
first_next n ds j h w l few early below e f p =
    subst (FirstPart n ds (j + 1)) (λ i. set h (sym e i * 256 + j) (sym f i)) (first_more n ds j h few early below p)

-- all the masks below 2 ^ n: there are no others
pub first_holds : (n : ℕ) (ds : List ℕ) (j : ℕ) (h : List ℕ) → 2 ^ n ≤ j → FirstPart n ds j h → Holds h (arriving n ds) 9
first_holds n ds j h above p =
    record {
      at = λ k t a b.
          elim (dec_lt t j) [
            | yes q ↦ p.done k t a b q
            | no q ↦ p.rest k t a b (omega arith) ∙ sym (first_above n ds k t (omega arith))
          ];
    }

-- `sums_of`: what the inputs passed come to, and what the digits that are left come to.
use mathlib.Core.Path.{◌≡◌, sym, ap, ◌∙◌, subst}
use mathlib.Core.List.{List}
use Prim.Native.Nat.{ℕ, ◌+◌, ◌-◌, ◌*◌, ◌^◌, ◌≤◌, ◌<◌, min}
use native.Mathlib.Omega.{arith}
use lib.ListN.{get_or}
use lib.Pow.{pow_mono}
use Rattle.distance.specs.Base.{Shallow, weight, load}
use Rattle.distance.specs.Table.{cost_at}
use Rattle.distance.proofs.Weight.{weight_out, weight_in, load_out, load_in}
use Rattle.builder.proofs.Refusals.{rest_small}

-- what is left has the digits below k, and each input passed counted 2 ^ 15 at most
pub record Left (n : ℕ) (ar : List ℕ) (t ones sum rest k : ℕ) : Type 0 where
  pub digits : k ≤ n
  pub weighed : weight n t ≡ ones + weight k rest
  pub loaded : load n ar t ≡ sum + load k ar rest
  pub small : rest < 2 ^ k
  pub few : ones + k ≤ n
  pub light : sum + 32768 * k ≤ 32768 * n

module _ (n : ℕ) (ar : List ℕ) (t ones sum rest k p : ℕ) (l : Left n ar t ones sum rest k) (some : 0 < k) (top : p ≡ 2 ^ (k - 1)) where
  one_less : k - 1 + 1 ≡ k
  one_less = omega arith

  below : rest < 2 ^ (k - 1 + 1)
  below = subst (λ (x : ℕ). rest < 2 ^ x) (sym one_less) l.small

  same-weight : weight (k - 1 + 1) rest ≡ weight k rest
  same-weight = ap (λ (x : ℕ). weight x rest) one_less

  same_load : load (k - 1 + 1) ar rest ≡ load k ar rest
  same_load = ap (λ (x : ℕ). load x ar rest) one_less

  pub next-out : rest < p → Left n ar t ones sum rest (k - 1)
  next-out h =
      let s : rest < 2 ^ (k - 1) = omega (arith, top, h) in
      record {
        digits = omega (arith, l.digits);
        weighed = omega (arith, l.weighed, same-weight, weight_out (k - 1) rest s);
        loaded = omega (arith, l.loaded, same_load, load_out (k - 1) ar rest s);
        small = s;
        few = omega (arith, l.few);
        light = omega (arith, l.light);
      }

  module _ (q : ℕ) (early : Shallow ar) (cost : q ≡ cost_at (get_or ar (k - 1) 0)) where
    cost_is : q ≡ 2 ^ get_or ar (k - 1) 0
    cost_is = let d : min (get_or ar (k - 1) 0) 20 ≡ get_or ar (k - 1) 0 = omega (arith, early (k - 1)) in cost ∙ ap (λ (x : ℕ). 2 ^ x) d

    pub cost-most : q ≤ 32768
    cost-most = let d : get_or ar (k - 1) 0 ≤ 15 = omega (arith, early (k - 1)) in omega (arith, cost_is, pow_mono d)

    pub next-in : p ≤ rest → Left n ar t (ones + 1) (sum + q) (rest - p) (k - 1)
    next-in h =
        let s : 2 ^ (k - 1) ≤ rest = omega (arith, top, h) in
        let r : rest - p ≡ rest - 2 ^ (k - 1) = ap (λ (x : ℕ). rest - x) top in
        record {
          digits = omega (arith, l.digits);
          weighed = omega (arith, l.weighed, same-weight, weight_in (k - 1) rest s below, ap (weight (k - 1)) r);
          loaded = omega (arith, l.loaded, same_load, load_in (k - 1) ar rest s below, ap (load (k - 1) ar) r, cost_is);
          small = omega (arith, rest_small (k - 1) rest below s, r);
          few = omega (arith, l.few);
          light = omega (arith, l.light, cost-most);
        }

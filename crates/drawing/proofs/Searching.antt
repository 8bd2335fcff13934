-- The ways of the loops over names and outputs.
use mathlib.Core.Path.{◌≡◌, refl, ◌∙◌}
use mathlib.Core.Bool.{Bool, true, false, not, cond}
use mathlib.Core.List.{List}
use Prim.Native.Nat.{ℕ, suc, ◌+◌, ◌-◌, ◌≤◌, ◌<◌}
use native.Mathlib.Omega.{arith}
use borrow.Author.Tests.{eq-eqb, ne_eqb}
use lib.Dec.{eqb, ltb}
use Rattle.std.specs.Prelude.{max}
use Rattle.std.proofs.lemmas.Bool.Decides.{nat_tests}
use lib.ListN.{get_or}
use Rattle.std.specs.Prelude.{Option, Some, None, is_some, unwrap_or}
use Rattle.formula.specs.Names.{is_line}
use Rattle.drawing.specs.Outputs.{line_or0, out_from, out_line, top_from, top_of, all_from, whole_of}

module _ (xs ls : List ℕ) (j n i : ℕ) where
  pub out_end : n ≤ i → out_from xs ls j (n - i) i ≡ None
  unfolding out_from
  out_end h = let k : n - i ≡ 0 = omega arith in rw k

  module _ (h : i < n) where
    pub out_hit : eqb (get_or xs i 0) (j + 1) ≡ true → out_from xs ls j (n - i) i ≡ Some (get_or ls i 0)
    unfolding out_from
    out_hit b = let k : n - i ≡ suc (n - (i + 1)) = omega arith in rw (k, b)

    pub out_miss : eqb (get_or xs i 0) (j + 1) ≡ false → out_from xs ls j (n - i) i ≡ out_from xs ls j (n - (i + 1)) (i + 1)
    unfolding out_from
    out_miss b = let k : n - i ≡ suc (n - (i + 1)) = omega arith in rw (k, b)

-- the greater of two
pub larger : (t x : ℕ) → max t x ≡ cond (ltb t x) x t
larger t x = grind (arith, nat_tests)

module _ (xs : List ℕ) (n i t : ℕ) where
  pub top_end : n ≤ i → top_from xs (n - i) i t ≡ t
  unfolding top_from
  top_end h = let k : n - i ≡ 0 = omega arith in rw k

  pub top_on : (u : ℕ) → i < n → u ≡ cond (ltb t (get_or xs i 0)) (get_or xs i 0) t → top_from xs (n - i) i t ≡ top_from xs (n - (i + 1)) (i + 1) u
  unfolding top_from
  top_on u h e = let k : n - i ≡ suc (n - (i + 1)) = omega arith in rw (k, e)

pub or0_is : (f : Option ℕ) → unwrap_or f 0 ≡ line_or0 f
or0_is None = refl
or0_is (Some v) = refl

line_is : (f : Option ℕ) → is_line f ≡ is_some f
line_is None = refl
line_is (Some v) = refl

module _ (xs ls : List ℕ) (n t j : ℕ) where
  pub all_end : t ≤ j → all_from xs ls n (t - j) j ≡ true
  unfolding all_from
  all_end h = let k : t - j ≡ 0 = omega arith in rw k

  module _ (h : j < t) (f : Option ℕ) (ef : f ≡ out_line xs ls n j) where
    pub all_gap : is_some f ≡ false → all_from xs ls n (t - j) j ≡ false
    unfolding all_from
    all_gap w = let k : t - j ≡ suc (t - (j + 1)) = omega arith in rw (k, ← ef, line_is f ∙ w)

    pub all_on : is_some f ≡ true → all_from xs ls n (t - j) j ≡ all_from xs ls n (t - (j + 1)) (j + 1)
    unfolding all_from
    all_on w = let k : t - j ≡ suc (t - (j + 1)) = omega arith in rw (k, ← ef, line_is f ∙ w)

-- ---- 17

module _ (xs ls : List ℕ) (n high : ℕ) where
  pub no_input : high ≡ 0 → false ≡ whole_of xs ls n high
  unfolding whole_of
  no_input h = rw (eq-eqb _ _ h)

  module _ (h : high ≡ 0 → ⊥) (t : ℕ) (et : t ≡ top_of xs n) where
    pub no_output : t ≡ 0 → not (eqb t 0) ≡ whole_of xs ls n high
    unfolding whole_of
    no_output k = rw (ne_eqb _ _ h, ← et, eq-eqb _ _ k)

    pub outputs_set : (r : Bool) → (t ≡ 0 → ⊥) → r ≡ all_from xs ls n t 0 → r ≡ whole_of xs ls n high
    unfolding whole_of
    outputs_set r k e = e ∙ rw (ne_eqb _ _ h, ← et, ne_eqb _ _ k)

-- The ways of a number in digits, and of a name that may be an output.
use mathlib.Core.Path.{◌≡◌, refl, sym, ◌∙◌}
use mathlib.Core.Bool.{Bool, true, false}
use mathlib.Core.Logic.{◌⊎◌, ⊎_elim}
use mathlib.Core.List.{List}
use Prim.Native.Nat.{ℕ, zero, suc, ◌+◌, ◌-◌, ◌*◌, ◌≤◌, ◌<◌}
use native.Mathlib.Omega.{arith}
use borrow.Author.Tests.{lt-ltb, le-ltb, le-leb, lt-leb, leb-true, leb-false}
use lib.Dec.{leb}
use lib.ListN.{get_or}
use Rattle.formula.specs.Sizes.{longest}
use Rattle.formula.specs.Text.{seen, in_class, word_end}
use Rattle.formula.specs.declared.Class.TheVariants.{Letter}
use Rattle.formula.proofs.Laws.{past-ge}
use Rattle.drawing.specs.Outputs.{digits_from, zero_first, output_no}

-- ten to the power of k: more than any number of k digits
unfoldable pub tens : ℕ → ℕ
tens zero = 1
tens (suc k) = tens k * 10

tens_up : (n k : ℕ) → k ≤ n → tens k ≤ tens n
unfolding tens
tens_up zero k h = let z : k ≡ 0 = omega arith in rw z (omega arith)
tens_up (suc n) k h = by (leb k n) refl (tens_up n k)
  where
    by : (t : Bool) → leb k n ≡ t → (k ≤ n → tens k ≤ tens n) → tens k ≤ tens n * 10
    by true w ih = omega (arith, ih (leb-true k n w))
    by false w ih = let z : k ≡ suc n = omega (arith, leb-false k n w) in rw z (omega arith)

-- a name has at most 15 digits
pub tens_few : (k : ℕ) → k ≤ 15 → tens k ≤ 1000000000000000
unfolding tens
tens_few k h = let z : tens 15 ≡ 1000000000000000 = refl in omega (arith, tens_up 15 k h)

pub tens_zero : (i : ℕ) → 0 < tens (i - i)
unfolding tens
tens_zero i = let z : i - i ≡ 0 = omega arith in rw z (omega arith)

pub tens_next : (i from v d : ℕ) → from ≤ i → v < tens (i - from) → d ≤ 9 → v * 10 + d < tens (i + 1 - from)
unfolding tens
tens_next i from v d h k m = let z : i + 1 - from ≡ suc (i - from) = omega arith in rw z (omega arith)

-- the digits from `from` on, of which those before i write v, and the others are still to be read up to e
pub record Counting (s : List ℕ) (from e v i : ℕ) : Type 0 where
  pub after : from ≤ i
  pub few : i - from ≤ e - from
  pub small : v < tens (i - from)
  pub same : digits_from s (e - from) from 0 ≡ digits_from s (e - i) i v

module _ (s : List ℕ) (from e : ℕ) where
  pub counting_none : Counting s from e 0 from
  counting_none = record { after = omega arith; few = omega arith; small = tens_zero from; same = refl }

  module _ (v i : ℕ) (w : Counting s from e v i) where
    pub digits_end : e ≤ i → v + 1 ≡ digits_from s (e - from) from 0
    unfolding digits_from
    digits_end h = let k : e - i ≡ 0 = omega arith in sym (w.same ∙ rw k)

    module _ (h : i < e) (b : ℕ) (at : b ≡ get_or s i 0) where
      pub digits_none : (b < 48) ⊎ (57 < b) → 0 ≡ digits_from s (e - from) from 0
      unfolding digits_from
      digits_none = ⊎_elim low above
        where
          low : b < 48 → 0 ≡ digits_from s (e - from) from 0
          low l = let k : e - i ≡ suc (e - (i + 1)) = omega arith in sym (w.same ∙ rw (k, ← at, lt-ltb _ _ l))

          above : 57 < b → 0 ≡ digits_from s (e - from) from 0
          above m = let k : e - i ≡ suc (e - (i + 1)) = omega arith in let l : 48 ≤ b = omega arith in sym (w.same ∙ rw (k, ← at, le-ltb _ _ l, lt-ltb _ _ m))

      pub counting_on : (x : ℕ) → 48 ≤ b → b ≤ 57 → x ≡ v * 10 + (b - 48) → Counting s from e x (i + 1)
      unfolding digits_from
      counting_on x l m q =
          let k : e - i ≡ suc (e - (i + 1)) = omega arith in
          record {
            after = omega (arith, w.after);
            few = omega (arith, w.after);
            small = rw q (tens_next i from v (b - 48) w.after w.small (omega arith));
            same = w.same ∙ rw (k, ← at, le-ltb _ _ l, le-ltb _ _ m, q);
          }

    pub counting_small : e - from ≤ 15 → v < 1000000000000000
    counting_small k = omega (arith, w.small, tens_few (i - from) (omega (arith, w.few)))

-- ---- a name that may be an output

pub name_ahead : (s : List ℕ) (p e : ℕ) → e ≡ word_end s p → p ≤ e
name_ahead s p e h = rw h (past-ge (in_class Letter) s p)

module _ (s : List ℕ) (p : ℕ) where
  pub out_no : seen s p 121 ≡ false → 0 ≡ output_no s p
  unfolding output_no
  out_no y = rw y

  module _ (y : seen s p 121 ≡ true) (e : ℕ) (at : e ≡ word_end s p) where
    pub out_short : e - p ≤ 1 → 0 ≡ output_no s p
    unfolding output_no
    out_short h = rw (← at, y, le-leb _ _ h)

    module _ (h : 1 < e - p) where
      pub out_long : longest < e - p → 0 ≡ output_no s p
      unfolding output_no
      out_long k = rw (← at, y, lt-leb _ _ h, lt-ltb _ _ k)

      module _ (k : e - p ≤ longest) where
        pub out_zero : zero_first s (p + 1) e ≡ true → 0 ≡ output_no s p
        unfolding output_no
        out_zero z = rw (← at, y, lt-leb _ _ h, le-ltb _ _ k, z)

        pub out_digits : (r : ℕ) → zero_first s (p + 1) e ≡ false → r ≡ digits_from s (e - (p + 1)) (p + 1) 0 → r ≡ output_no s p
        unfolding output_no
        out_digits r z q = q ∙ rw (← at, y, lt-leb _ _ h, le-ltb _ _ k, z)

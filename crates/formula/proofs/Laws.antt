-- Laws of places in a text, over plain values.
use mathlib.Core.Path.{◌≡◌, refl, sym, ◌∙◌}
use mathlib.Core.Bool.{Bool, true, false, cond}
use mathlib.Core.List.{List, [], ◌∷◌}
use Prim.Native.Nat.{ℕ, suc, ◌+◌, ◌-◌, ◌≤◌, ◌<◌}
use native.Mathlib.Numerals.{add-one}
use native.Mathlib.Omega.{arith}
use borrow.Author.Tests.{lt-ltb, le-ltb, ltb-true}
use lib.Dec.{ltb, eqb}
use lib.ListN.{length, get_or, drop, length-drop, drop_of_length-le}
use lib.Seq.{drop-cons}
use Rattle.formula.specs.Text.{seen, Seen, lead, past, wrap_with}

module _ (f : ℕ → Bool) (s : List ℕ) (p : ℕ) where
  pub past_hit : p < length s → f (get_or s p 0) ≡ true → past f s p ≡ past f s (p + 1)
  unfolding past
  past_hit h e = rw (drop-cons s p 0 h, e, add-one) (omega arith)

  pub past_miss : p < length s → f (get_or s p 0) ≡ false → past f s p ≡ p
  unfolding past
  past_miss h e = rw (drop-cons s p 0 h, e) (omega arith)

  pub past_end : length s ≤ p → past f s p ≡ p
  unfolding past
  past_end h = rw (drop_of_length-le s {i = p} h) (omega arith)

  pub past-ge : p ≤ past f s p
  unfolding past
  past-ge = omega arith

lead-le : (f : ℕ → Bool) (l : List ℕ) → lead f l ≤ length l
lead-le f [] = omega arith
lead-le f (b ∷ l) = by (f b) (lead-le f l)
  where
    by : (t : Bool) → lead f l ≤ length l → cond t (suc (lead f l)) 0 ≤ suc (length l)
    by true h = omega arith
    by false h = omega arith

pub past_in : (f : ℕ → Bool) (s : List ℕ) (p e : ℕ) → e ≡ past f s p → p < e → e ≤ length s
unfolding past
past_in f s p e k h = omega (arith, lead-le f (drop p s), length-drop p s)

pub seen_in : (s : List ℕ) (p b : ℕ) → seen s p b ≡ true → p < length s
unfolding seen
seen_in s p b e = by (ltb p (length s)) refl e
  where
    by : (t : Bool) → ltb p (length s) ≡ t → cond t (eqb (get_or s p 0) b) false ≡ true → p < length s
    by true q e = ltb-true _ _ q
    by false q e = let z : ◌≡◌ {A = ℕ} 0 1 = cc in absurd (omega arith)

module _ (s : List ℕ) (p b : ℕ) where
  pub seen_here : (r : Bool) → p < length s → r ≡ eqb (get_or s p 0) b → Seen s p b r
  unfolding seen
  seen_here r h e = record { is = e ∙ rw (lt-ltb _ _ h); within = λ k. h }

  pub seen_past : (r : Bool) → length s ≤ p → r ≡ false → Seen s p b r
  unfolding seen
  seen_past r h e = record { is = e ∙ rw (le-ltb _ _ h); within = λ k. let n = sym k ∙ e in let z : ◌≡◌ {A = ℕ} 0 1 = cc in absurd (omega arith) }

-- ---- a turn of `wrap`
module _ {A : Type 0} (n : A → A) (s : List ℕ) where
  pub wrap_more : (to i : ℕ) (r r' : A) → i < to → r' ≡ cond (seen s i 126) (n r) r → wrap_with n s (to - i) i r ≡ wrap_with n s (to - (i + 1)) (i + 1) r'
  unfolding wrap_with
  wrap_more to i r r' h e =
      let k : to - i ≡ suc (to - (i + 1)) = omega arith in
      rw (k, e)

  pub wrap_end : (to i : ℕ) (r : A) → to ≤ i → wrap_with n s (to - i) i r ≡ r
  unfolding wrap_with
  wrap_end to i r h = let k : to - i ≡ 0 = omega arith in rw k

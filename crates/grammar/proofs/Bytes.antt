-- Bytes at places of a text, and runs of them: laws over plain values.
use mathlib.Core.Path.{◌≡◌, refl, sym, ap, subst, ◌∙◌}
use mathlib.Core.Bool.{Bool, true, false, cond}
use mathlib.Core.List.{List, [], ◌∷◌}
use Prim.Native.Nat.{ℕ, zero, suc, ◌+◌, ◌-◌, ◌≤◌, ◌<◌}
use native.Mathlib.Omega.{arith}
use borrow.Author.Tests.{lt-ltb, le-ltb, leb-true, leb-false, eqb-true, ne_eqb}
use lib.Dec.{leb, ltb, eqb}
use lib.ListN.{length, get_or, drop, length-drop}
use lib.Seq.{get_or-drop}
use Rattle.formula.specs.Text.{seen, lead, past, is_letter, in_class}
use Rattle.formula.specs.declared.Class.TheVariants.{Blank, Tilde, Letter}
use Rattle.formula.proofs.Laws.{past-ge, past_in, seen_in}

-- ---- a byte at a place

-- past the end of the text nothing stands
pub seen_out : (s : List ℕ) (p b : ℕ) → length s ≤ p → seen s p b ≡ false
unfolding seen
seen_out s p b h = rw (le-ltb _ _ h)

-- one byte stands at a place
pub seen_one : (s : List ℕ) (p a b : ℕ) → seen s p a ≡ true → (a ≡ b → ⊥) → seen s p b ≡ false
unfolding seen
seen_one s p a b h n = by (ltb p (length s)) h
  where
    by : (t : Bool) → cond t (eqb (get_or s p 0) a) false ≡ true → cond t (eqb (get_or s p 0) b) false ≡ false
    by true h = let e = eqb-true (get_or s p 0) a h in ne_eqb _ _ (λ q. n (sym e ∙ q))
    by false h = refl

pub seen_byte : (s : List ℕ) (p b : ℕ) (t : Bool) → p < length s → seen s p b ≡ t → eqb (get_or s p 0) b ≡ t
unfolding seen
seen_byte s p b t h e = rw (lt-ltb _ _ h) at e

pub byte_seen : (s : List ℕ) (p b : ℕ) (t : Bool) → p < length s → eqb (get_or s p 0) b ≡ t → seen s p b ≡ t
unfolding seen
byte_seen s p b t h e = rw (lt-ltb _ _ h) e

pub seen_is : (s : List ℕ) (p b : ℕ) → seen s p b ≡ true → get_or s p 0 ≡ b
seen_is s p b e = eqb-true (get_or s p 0) b (seen_byte s p b true (seen_in s p b e) e)

-- ---- the first place whose byte does not pass

in_lead : (f : ℕ → Bool) (l : List ℕ) (i : ℕ) → i < lead f l → f (get_or l i 0) ≡ true
in_lead f [] i h = absurd (omega arith)
in_lead f (b ∷ l) i h = by (f b) refl (in_lead f l) i h
  where
    by : (t : Bool) → f b ≡ t → ((i : ℕ) → i < lead f l → f (get_or l i 0) ≡ true) → (i : ℕ) → i < cond t (suc (lead f l)) 0 → f (get_or (b ∷ l) i 0) ≡ true
    by true w ih zero h = w
    by true w ih (suc i) h = ih i (omega arith)
    by false w ih i h = absurd (omega arith)

at_lead : (f : ℕ → Bool) (l : List ℕ) → lead f l < length l → f (get_or l (lead f l) 0) ≡ false
at_lead f [] h = absurd (omega arith)
at_lead f (b ∷ l) h = by (f b) refl (at_lead f l) h
  where
    by : (t : Bool) → f b ≡ t → (lead f l < length l → f (get_or l (lead f l) 0) ≡ false) → cond t (suc (lead f l)) 0 < suc (length l) → f (get_or (b ∷ l) (cond t (suc (lead f l)) 0) 0) ≡ false
    by true w ih h = ih (omega arith)
    by false w ih h = w

module _ (f : ℕ → Bool) (s : List ℕ) (p : ℕ) where
  -- each byte before it passes,
  pub past_hits : (i : ℕ) → p ≤ i → i < past f s p → f (get_or s i 0) ≡ true
  unfolding past
  past_hits i h k =
      let z : p + (i - p) ≡ i = omega arith in
      ap (λ (j : ℕ). f (get_or s j 0)) (sym z) ∙ ap f (sym (get_or-drop p s (i - p) 0)) ∙ in_lead f (drop p s) (i - p) (omega arith)

  -- the byte at it does not,
  pub past_stops : past f s p < length s → f (get_or s (past f s p) 0) ≡ false
  unfolding past
  past_stops h = ap f (sym (get_or-drop p s (lead f (drop p s)) 0)) ∙ at_lead f (drop p s) (omega (arith, length-drop p s))

  -- so where no byte passes the first one does not,
  pub past-none : past f s p ≤ p → p < length s → f (get_or s p 0) ≡ false
  past-none h k = let z : past f s p ≡ p = omega (arith, past-ge f s p) in subst (λ (i : ℕ). i < length s → f (get_or s i 0) ≡ false) z past_stops k

  -- and it is within the text where the run begins there
  pub past-within : p ≤ length s → past f s p ≤ length s
  past-within h = by (leb (past f s p) p) refl
    where
      by : (t : Bool) → leb (past f s p) p ≡ t → past f s p ≤ length s
      by true w = omega (arith, leb-true (past f s p) p w)
      by false w = past_in f s p (past f s p) refl (leb-false (past f s p) p w)

-- ---- classes of bytes

-- letters and digits lie between 48 and 122
pub letters : (b : ℕ) → is_letter b ≡ true → (48 ≤ b) × (b ≤ 122)
unfolding is_letter
letters b e = by (leb 48 b) refl (leb b 57) refl (leb 65 b) (leb b 90) refl (leb 97 b) (leb b 122) refl e
  where
    by : (p : Bool) → leb 48 b ≡ p → (q : Bool) → leb b 57 ≡ q → (r : Bool) (t : Bool) → leb b 90 ≡ t → (u v : Bool) → leb b 122 ≡ v
        → cond p (cond q true (cond r (cond t true (cond u v false)) false)) false ≡ true → (48 ≤ b) × (b ≤ 122)
    by true ep true eq r t et u v ev e = (leb-true _ _ ep, omega (arith, leb-true b 57 eq))
    by true ep false eq true true et u v ev e = (leb-true _ _ ep, omega (arith, leb-true b 90 et))
    by true ep false eq true false et true true ev e = (leb-true _ _ ep, leb-true _ _ ev)
    by true ep false eq true false et true false ev e = let z : ◌≡◌ {A = ℕ} 0 1 = cc in absurd (omega arith)
    by true ep false eq true false et false v ev e = let z : ◌≡◌ {A = ℕ} 0 1 = cc in absurd (omega arith)
    by true ep false eq false t et u v ev e = let z : ◌≡◌ {A = ℕ} 0 1 = cc in absurd (omega arith)
    by false ep q eq r t et u v ev e = let z : ◌≡◌ {A = ℕ} 0 1 = cc in absurd (omega arith)

-- a letter is no byte below the digits,
pub letter_not : (b x : ℕ) → in_class Letter b ≡ true → x < 48 → eqb b x ≡ false
unfolding in_class
letter_not b x e h = ne_eqb b x (λ q. omega (arith, (letters b e).0))

-- and neither a space nor ~
pub letter_no_tilde : (b : ℕ) → in_class Letter b ≡ true → in_class Tilde b ≡ false
unfolding in_class
letter_no_tilde b e = rw (ne_eqb b 32 (λ q. omega (arith, (letters b e).0)), ne_eqb b 126 (λ q. omega (arith, (letters b e).1)))

-- what is neither a space nor ~ is no space
pub no_tilde : (b : ℕ) → in_class Tilde b ≡ false → in_class Blank b ≡ false
unfolding in_class
no_tilde b e = by (eqb b 32) e
  where
    by : (u : Bool) → cond u true (eqb b 126) ≡ false → u ≡ false
    by true e = e
    by false e = refl

-- Where the names of a text begin and end, and where its lines do.
use mathlib.Core.Path.{◌≡◌, refl, sym, ap, ◌∙◌}
use mathlib.Core.Bool.{Bool, true, false, cond, true≢false}
use mathlib.Core.List.{List}
use Prim.Native.Nat.{ℕ, zero, suc, ◌+◌, ◌-◌, ◌≤◌, ◌<◌}
use native.Mathlib.Numerals.{add-one}
use native.Mathlib.Omega.{arith}
use borrow.Author.Tests.{ltb-true, ltb-false}
use lib.Dec.{ltb}
use lib.ListN.{length, get_or, get_or-eq_default}
use Rattle.formula.specs.Sizes.{longest}
use Rattle.formula.specs.Text.{seen, past, is_letter, in_class, word_end}
use Rattle.formula.specs.declared.Class.TheVariants.{Letter}
use Rattle.formula.proofs.Laws.{past-ge, past_hit}
use Rattle.grammar.proofs.Bytes.{seen_is, past_hits}
use Rattle.known.specs.Known.{Word, line_start}

-- a test does not both pass and fail
pub clash : (t : Bool) → t ≡ true → t ≡ false → ⊥
clash t e f = true≢false (sym e ∙ f)

module _ (s : List ℕ) where
  -- no letter stands before p
  abbrev pub Fresh : ℕ → Type 0
  Fresh p = (q : ℕ) → suc q ≡ p → in_class Letter (get_or s q 0) ≡ false

  pub fresh_zero : Fresh 0
  fresh_zero q e = absurd (omega arith)

  pub fresh_next : (p : ℕ) → in_class Letter (get_or s p 0) ≡ false → Fresh (p + 1)
  fresh_next p h q e = let z : q ≡ p = omega arith in rw z h

  -- bytes that are no letters leave it so
  pub fresh_past : (f : ℕ → Bool) → ((b : ℕ) → f b ≡ true → in_class Letter b ≡ false) → (p : ℕ) → Fresh p → Fresh (past f s p)
  fresh_past f none p h q e = by (ltb q p) refl
    where
      by : (t : Bool) → ltb q p ≡ t → in_class Letter (get_or s q 0) ≡ false
      by true w = h q (omega (arith, ltb-true q p w, past-ge f s p))
      by false w = none (get_or s q 0) (past_hits f s p q (ltb-false q p w) (omega arith))

  -- ---- names

  letter_in : (p : ℕ) → in_class Letter (get_or s p 0) ≡ true → p < length s
  unfolding in_class is_letter
  letter_in p e = by (ltb p (length s)) refl
    where
      by : (t : Bool) → ltb p (length s) ≡ t → p < length s
      by true w = ltb-true _ _ w
      by false w = absurd (clash false (sym (ap (in_class Letter) (get_or-eq_default s 0 (ltb-false p (length s) w))) ∙ e) refl)

  pub word_in : (p : ℕ) → Word s p → p < length s
  word_in p w = letter_in p w.here

  pub word_some : (p : ℕ) → Word s p → p < word_end s p
  word_some p w = omega (arith, past_hit (in_class Letter) s p (word_in p w) w.here, past-ge (in_class Letter) s (p + 1))

  -- letters that no letter stands before are a name, where they are not too many,
  pub word_is : (p : ℕ) → Fresh p → p < word_end s p → word_end s p ≤ p + longest → Word s p
  word_is p f h m = record { here = past_hits (in_class Letter) s p p (omega arith) h; first = f; short = m }

  -- and no other name begins among them
  pub no_word : (p a : ℕ) → p < a → a < word_end s p → Word s a → ⊥
  no_word p a h k w = clash (in_class Letter (get_or s (a - 1) 0)) (past_hits (in_class Letter) s p (a - 1) (omega arith) (omega arith)) (w.first (a - 1) (omega arith))

  -- ---- lines

  -- within a line it begins where it began
  pub line_same : (p q : ℕ) → p ≤ q → ((i : ℕ) → p ≤ i → i < q → seen s i 10 ≡ false) → line_start s q ≡ line_start s p
  unfolding line_start
  line_same p zero h n = let z : p ≡ 0 = omega arith in rw z
  line_same p (suc q) h n = by (ltb q p) refl (line_same p q)
    where
      by : (t : Bool) → ltb q p ≡ t → (p ≤ q → ((i : ℕ) → p ≤ i → i < q → seen s i 10 ≡ false) → line_start s q ≡ line_start s p) → line_start s (suc q) ≡ line_start s p
      by true w ih = let z : suc q ≡ p = omega (arith, ltb-true q p w) in ap (line_start s) z
      by false w ih = rw (n q (ltb-false q p w) (omega arith)) (ih (ltb-false q p w) (λ i a b. n i a (omega arith)))

  -- a line begins after each LF
  pub line_next : (p : ℕ) → seen s p 10 ≡ true → line_start s (p + 1) ≡ p + 1
  unfolding line_start
  line_next p e = rw (add-one p, e)

  -- and not after the place
  pub line-le : (p : ℕ) → line_start s p ≤ p
  unfolding line_start
  line-le zero = omega arith
  line-le (suc p) = by (seen s p 10) (line-le p)
    where
      by : (t : Bool) → line_start s p ≤ p → cond t (suc p) (line_start s p) ≤ suc p
      by true h = omega arith
      by false h = omega arith

  -- so a name may begin where a line does
  pub line_fresh : (p : ℕ) → line_start s p ≡ p → Fresh p
  unfolding line_start in_class is_letter
  line_fresh zero e = fresh_zero
  line_fresh (suc p) e = by (seen s p 10) refl e
    where
      by : (t : Bool) → seen s p 10 ≡ t → cond t (suc p) (line_start s p) ≡ suc p → Fresh (suc p)
      by true w e q h = let z : q ≡ p = omega arith in ap (λ (i : ℕ). in_class Letter (get_or s i 0)) z ∙ ap (in_class Letter) (seen_is s p 10 w)
      by false w e q h = absurd (omega (arith, line-le p))

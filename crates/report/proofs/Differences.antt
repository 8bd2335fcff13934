-- The words of the differing inputs: an input is set in them exactly where some output differs on it. Assumes nothing.
use mathlib.Core.Path.{◌≡◌, ap, ap₂, ◌∙◌, sym}
use mathlib.Core.Bool.{true, false}
use mathlib.Core.Logic.{⊎_elim}
use mathlib.Core.List.{List}
use Prim.Native.Nat.{ℕ, zero, suc, ◌≤◌, ◌<◌, ◌+◌, max}
use native.Mathlib.Numerals.{add-one}
use native.Mathlib.Omega.{arith}
use native.Mathlib.Nat.{eq-or-lt_of_le}
use lib.Bits.{differ}
use lib.Dec.{eqb, ltb}
use lib.ListN.{get_or}
use borrow.Author.Tests.{not-true, not-false, eqb-true, eqb-false, eq-eqb, ne_eqb, lt-ltb, le-ltb}
use Rattle.circuit.specs.declared.Words.{Words}
use Rattle.circuit.specs.Gate.{Kind, words_of, no_words, value_in}
use Rattle.circuit.specs.Sizes.{most_values}
use Rattle.circuit.proofs.GateLaws.{bit-lt, differ-lt, differ_self, differ_other}
use Rattle.circuit.proofs.LineLaws.{place}
use Rattle.circuit.proofs.WordLaws.{value_words, none-set}
use Rattle.bench.specs.State.{least}
use Rattle.report.specs.Judged.{out_words, differences, differs_in}
use Rattle.report.proofs.Smallest.{least_holds, least_before}

-- one output more
pub differences-suc : (values : List Words) (outputs : List ℕ) (wanted : List Words) (j : ℕ)
    → words_of Kind.OR (differences values outputs wanted j) (words_of Kind.XOR (out_words values outputs j) (get_or wanted j no_words))
    ≡ differences values outputs wanted (j + 1)
unfolding differences
differences-suc values outputs wanted j = ap (differences values outputs wanted) (sym (add-one j))

module _ (values : List Words) (outputs : List ℕ) (wanted : List Words) (x : ℕ) (hx : x < most_values) where
  -- the value of output j, and the one that is wanted
  abbrev out : ℕ → ℕ
  out j = value_in (out_words values outputs j) x

  abbrev want : ℕ → ℕ
  want j = value_in (get_or wanted j no_words) x

  abbrev Set : ℕ → ℕ
  Set j = value_in (differences values outputs wanted j) x

  set-lt : (j : ℕ) → Set j < 2
  set-lt j = bit-lt _ _

  one_more : (j : ℕ) → Set (suc j) ≡ max (Set j) (differ (out j) (want j))
  unfolding differences
  one_more j = value_words Kind.OR (differences values outputs wanted j) _ x hx ∙ ap (max (Set j)) (value_words Kind.XOR _ _ x hx)

  none_found : (j : ℕ) → ((k : ℕ) → k < j → differs_in values outputs wanted x k ≡ false) → Set j ≡ 0
  unfolding differences
  none_found zero h = none-set x
  none_found (suc j) h =
      let e = eqb-true (out j) (want j) (not-false _ (h j (omega arith))) in
      one_more j ∙ ap₂ max (none_found j (λ k l. h k (omega arith))) (ap (λ (a : ℕ). differ a (want j)) e ∙ differ_self (want j))

  one_found : (j k : ℕ) → k < j → differs_in values outputs wanted x k ≡ true → Set j ≡ 1
  one_found zero k l d = absurd (omega arith)
  one_found (suc j) k l d =
      let m = one_more j in
      ⊎_elim
      (λ e. omega (arith, set-lt j, differ_other (out j) (want j) (bit-lt _ _) (bit-lt _ _) (eqb-false (out j) (want j) (not-true _ (sym (ap (differs_in values outputs wanted x) e) ∙ d)))))
      (λ q. omega (arith, one_found j k q d, differ-lt (out j) (want j) (bit-lt _ _) (bit-lt _ _)))
      (eq-or-lt_of_le {n = k} {m = j} (omega arith))

  -- among the first j outputs
  pub found_is : (j : ℕ) → eqb (Set j) 1 ≡ ltb (least (differs_in values outputs wanted x) j 0) j
  found_is j =
      let d = differs_in values outputs wanted x in
      let r = least d j 0 in
      ⊎_elim
      (λ l. eq-eqb (Set j) 1 (one_found j r l (least_holds d j 0 (omega arith))) ∙ sym (lt-ltb r j l))
      (λ m. let u : j ≤ r = ⊎_elim (λ e. omega arith) (λ e. omega arith) m in
      let z = none_found j (λ k l. least_before d j 0 k (omega arith) (omega arith)) in
      ne_eqb (Set j) 1 (λ e. omega arith) ∙ sym (le-ltb r j u))
      (place r j)

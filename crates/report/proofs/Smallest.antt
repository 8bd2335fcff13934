-- Laws of `least`, the smallest number from one on that passes a test. Assumes nothing.
use mathlib.Core.Path.{◌≡◌, refl, ap, ◌∙◌, sym}
use mathlib.Core.Bool.{Bool, true, false, cond}
use mathlib.Core.Logic.{⊎_elim}
use Prim.Native.Nat.{ℕ, zero, suc, ◌≤◌, ◌<◌, ◌-◌, ◌+◌}
use native.Mathlib.Omega.{arith}
use native.Mathlib.Nat.{zero-add, add-zero, eq-or-lt_of_le}
use native.Mathlib.Numerals.{add-one}
use Rattle.bench.specs.State.{least}

-- ---- in a loop that looks at i, i + 1, .. below n

module _ (p : ℕ → Bool) (n i : ℕ) where
  step : i < n → least p (n - i) i ≡ cond (p i) i (least p (n - (i + 1)) (i + 1))
  unfolding least
  step h =
      let e : n - i ≡ suc (n - (i + 1)) = omega arith in
      ap (λ (c : ℕ). least p c i) e ∙ ap (λ (k : ℕ). cond (p i) i (least p (n - (i + 1)) k)) (sym (add-one i))

  pub least_stop : i < n → p i ≡ true → least p (n - i) i ≡ i
  least_stop h e = step h ∙ ap (λ (t : Bool). cond t i (least p (n - (i + 1)) (i + 1))) e

  pub least_next : i < n → p i ≡ false → least p (n - i) i ≡ least p (n - (i + 1)) (i + 1)
  least_next h e = step h ∙ ap (λ (t : Bool). cond t i (least p (n - (i + 1)) (i + 1))) e

  pub least_end : n ≤ i → least p (n - i) i ≡ i
  unfolding least
  least_end h = let e : n - i ≡ 0 = omega arith in ap (λ (c : ℕ). least p c i) e

-- ---- what it means: p holds there, if it is below the end, and at none before

pub least_holds : (p : ℕ → Bool) (c i : ℕ) → least p c i < i + c → p (least p c i) ≡ true
unfolding least
least_holds p zero i h = absurd (omega arith)
least_holds p (suc c) i h = by (p i) refl (least_holds p c (suc i)) h where
  by : (t : Bool) → p i ≡ t → (least p c (suc i) < suc i + c → p (least p c (suc i)) ≡ true)
      → cond t i (least p c (suc i)) < i + suc c → p (cond t i (least p c (suc i))) ≡ true
  by true e r h = e
  by false e r h = r (omega arith)

pub least_before : (p : ℕ → Bool) (c i j : ℕ) → i ≤ j → j < least p c i → p j ≡ false
unfolding least
least_before p zero i j a b = absurd (omega arith)
least_before p (suc c) i j a b = by (p i) refl (least_before p c (suc i) j) b where
  by : (t : Bool) → p i ≡ t → (suc i ≤ j → j < least p c (suc i) → p j ≡ false) → j < cond t i (least p c (suc i)) → p j ≡ false
  by true e r h = absurd (omega arith)
  by false e r h = ⊎_elim (λ q. sym (ap p q) ∙ e) (λ q. r q h) (eq-or-lt_of_le a)

-- it is among those looked at, or their end
pub least_from : (p : ℕ → Bool) (c i : ℕ) → i ≤ least p c i
unfolding least
least_from p zero i = omega arith
least_from p (suc c) i = by (p i) (least_from p c (suc i)) where
  by : (t : Bool) → suc i ≤ least p c (suc i) → i ≤ cond t i (least p c (suc i))
  by true h = omega arith
  by false h = omega arith

pub least-to : (p : ℕ → Bool) (c i : ℕ) → least p c i ≤ i + c
unfolding least
least-to p zero i = omega arith
least-to p (suc c) i = by (p i) (least-to p c (suc i)) where
  by : (t : Bool) → least p c (suc i) ≤ suc i + c → cond t i (least p c (suc i)) ≤ i + suc c
  by true h = omega arith
  by false h = omega arith

-- ---- two tests, and two stretches

-- tests that agree where they are looked at
pub least_same : (p q : ℕ → Bool) (c i : ℕ) → ((j : ℕ) → i ≤ j → j < i + c → p j ≡ q j) → least p c i ≡ least q c i
unfolding least
least_same p q zero i h = refl
least_same p q (suc c) i h =
    let a = h i (omega arith) (omega arith) in
    let r = least_same p q c (suc i) (λ j l k. h j (omega arith) (omega arith)) in
    λ t. cond (a t) i (r t)

-- the test seen from k on
pub least_shift : (p : ℕ → Bool) (k c i : ℕ) → least p c (k + i) ≡ k + least (λ (x : ℕ). p (k + x)) c i
unfolding least
least_shift p k zero i = refl
least_shift p k (suc c) i =
    let e : suc (k + i) ≡ k + suc i = omega arith in
    by (p (k + i)) (ap (least p c) e ∙ least_shift p k c (suc i)) where
      by : (t : Bool) → least p c (suc (k + i)) ≡ k + least (λ (x : ℕ). p (k + x)) c (suc i)
          → cond t (k + i) (least p c (suc (k + i))) ≡ k + cond t i (least (λ (x : ℕ). p (k + x)) c (suc i))
      by true r = refl
      by false r = r

-- a stretch of a at which no test holds is passed
skip : (p : ℕ → Bool) (a b i : ℕ) → ((j : ℕ) → i ≤ j → j < i + a → p j ≡ false) → least p (a + b) i ≡ least p b (i + a)
unfolding least
skip p zero b i h = λ t. least p (zero-add b t) (sym (add-zero i) t)
skip p (suc a) b i h =
    let e : suc a + b ≡ suc (a + b) = omega arith in
    let f : suc i + a ≡ i + suc a = omega arith in
    ap (λ (c : ℕ). least p c i) e
    ∙ ap (λ (t : Bool). cond t i (least p (a + b) (suc i))) (h i (omega arith) (omega arith))
    ∙ skip p a b (suc i) (λ j l k. h j (omega arith) (omega arith)) ∙ ap (least p b) f

pub least-none : (p : ℕ → Bool) (c i : ℕ) → ((j : ℕ) → i ≤ j → j < i + c → p j ≡ false) → least p c i ≡ i + c
unfolding least
least-none p c i h = ap (λ (k : ℕ). least p k i) (sym (add-zero c)) ∙ skip p c 0 i h

-- a number that passes, where none before does
pub least_is : (p : ℕ → Bool) (c i r : ℕ) → i ≤ r → r < i + c → p r ≡ true → ((j : ℕ) → i ≤ j → j < r → p j ≡ false) → least p c i ≡ r
unfolding least
least_is p c i r l u t h =
    let e : c ≡ (r - i) + suc (c - suc (r - i)) = omega arith in
    let f : i + (r - i) ≡ r = omega arith in
    ap (λ (k : ℕ). least p k i) e
    ∙ skip p (r - i) (suc (c - suc (r - i))) i (λ j a b. h j a (omega arith))
    ∙ ap (least p (suc (c - suc (r - i)))) f ∙ ap (λ (s : Bool). cond s r (least p (c - suc (r - i)) (suc r))) t

-- a stretch of a, and b more: what is found in the first is found, and else it is looked for in the second
module _ (p : ℕ → Bool) (a b i : ℕ) where
  pub least_here : least p a i < i + a → least p (a + b) i ≡ least p a i
  least_here h = least_is p (a + b) i (least p a i) (least_from p a i) (omega arith) (least_holds p a i h) (least_before p a i)

  pub least-past : i + a ≤ least p a i → least p (a + b) i ≡ least p b (i + a)
  least-past h = skip p a b i (λ j l k. least_before p a i j l (omega arith))

-- An array that a loop fills from its start.
use mathlib.Core.Path.{◌≡◌, refl, sym, ◌∙◌}
use mathlib.Core.Bool.{Bool, true, false, cond}
use mathlib.Core.List.{List}
use Prim.Native.Nat.{ℕ, ◌+◌, ◌≤◌, ◌<◌}
use native.Mathlib.Omega.{arith}
use borrow.Author.Tests.{eqb-true, eqb-false, ltb-true, ltb-false}
use lib.Dec.{eqb, ltb}
use lib.ListN.{length, get_or, set, replicate, length-set, length-replicate, get_or-replicate}
use lib.Seq.{get_or-set_same, get_or-set_other, ext_get_or}
use Rattle.circuit.specs.Lines.{upto}
use Rattle.circuit.proofs.Upto.{upto-length, upto_at}

-- of n places the first k hold f, and the others 0
pub record Filled (f : ℕ → ℕ) (n : ℕ) (r : List ℕ) (k : ℕ) : Type 0 where
  pub size : length r ≡ n
  pub holds : (j : ℕ) → j < k → get_or r j 0 ≡ f j
  pub empty : (j : ℕ) → k ≤ j → j < n → get_or r j 0 ≡ 0

module _ (f : ℕ → ℕ) (n : ℕ) where
  pub filled_none : Filled f n (replicate n 0) 0
  filled_none = record { size = length-replicate n 0; holds = λ j h. absurd (omega arith); empty = λ j h k. get_or-replicate n j 0 0 k }

  pub filled_next : (r : List ℕ) (k v : ℕ) → Filled f n r k → k < n → v ≡ f k → Filled f n (set r k v) (k + 1)
  filled_next r k v w h e =
      record {
        size = length-set r k v ∙ w.size;
        holds = λ j m. by j m (eqb j k) refl;
        empty = λ j l m. get_or-set_other r k j v 0 (λ q. absurd (omega arith)) ∙ w.empty j (omega arith) m;
      }
    where
      by : (j : ℕ) → j < k + 1 → (t : Bool) → eqb j k ≡ t → get_or (set r k v) j 0 ≡ f j
      by j m true q = let z : j ≡ k = eqb-true j k q in rw z (get_or-set_same r k v 0 (omega (arith, w.size)) ∙ e)
      by j m false q = get_or-set_other r k j v 0 (eqb-false j k q) ∙ w.holds j (omega (arith, eqb-false j k q))

  -- the first k of f and zeros after them
  pub filled_to : (r : List ℕ) (k : ℕ) → Filled f n r k → r ≡ upto (λ (j : ℕ). cond (ltb j k) (f j) 0) n
  filled_to r k w =
      ext_get_or 0 r (upto (λ (j : ℕ). cond (ltb j k) (f j) 0) n) (w.size ∙ sym (upto-length (λ (j : ℕ). cond (ltb j k) (f j) 0) n))
      (λ j m. by j (omega (arith, w.size)) (ltb j k) refl ∙ sym (upto_at (λ (j : ℕ). cond (ltb j k) (f j) 0) 0 n j (omega (arith, w.size))))
    where
      by : (j : ℕ) → j < n → (t : Bool) → ltb j k ≡ t → get_or r j 0 ≡ cond (ltb j k) (f j) 0
      by j m true q = w.holds j (ltb-true j k q) ∙ rw q
      by j m false q = w.empty j (ltb-false j k q) m ∙ rw q

  -- the same after a loop up to some count
  pub filled_end : (few : ℕ) (r : List ℕ) (m i : ℕ) → m ≡ few → i ≤ m → m ≤ i → Filled f n r i → r ≡ upto (λ (j : ℕ). cond (ltb j few) (f j) 0) n
  filled_end few r m i e h k w = let z : i ≡ few = omega (arith, e) in rw (← z) (filled_to r i w)

  -- all of f
  pub filled_all : (r : List ℕ) (k : ℕ) → Filled f n r k → n ≤ k → r ≡ upto f n
  filled_all r k w h =
      ext_get_or 0 r (upto f n) (w.size ∙ sym (upto-length f n))
      (λ j m. w.holds j (omega (arith, w.size)) ∙ sym (upto_at f 0 n j (omega (arith, w.size))))

-- One gate more, and a line that is read: what each leaves of the gates before.
use mathlib.Core.Path.{◌≡◌, refl, ◌∙◌}
use mathlib.Core.Bool.{Bool, true, false, cond}
use mathlib.Core.List.{List}
use Prim.Native.Nat.{ℕ, ◌+◌, ◌≤◌, ◌<◌, min, max}
use native.Mathlib.Omega.{arith}
use borrow.Author.Tests.{lt-ltb, ltb-true, ltb-false, leb-true, leb-false}
use lib.Dec.{leb, ltb}
use lib.ListN.{length, get_or, set, length-set, length-replicate}
use lib.Seq.{get_or-set_same, get_or-set_other}
use Rattle.circuit.specs.Sizes.{most_inputs, most_gates}
use Rattle.circuit.specs.Lines.{Gate, gate}
use Rattle.formula.specs.Emit.{gates_with, no_gates, add_gate, with_signs, odd_after, invert, new_line, use_line}
use Rattle.formula.specs.declared.Gates.{Gates}

-- the arrays have their lengths
pub record Sized (g : Gates) : Type 0 where
  pub kinds : length g.kinds ≡ most_gates
  pub left : length g.left ≡ most_gates
  pub right : length g.right ≡ most_gates

-- gate k, its lines as if there were 8 inputs
abbrev pub gate_made : Gates → ℕ → Gate
gate_made g k = gate (get_or g.kinds k 0) (get_or g.left k 0) (get_or g.right k 0)

-- h is g with the gate q more
pub record Grown (g h : Gates) (q : Gate) : Type 0 where
  pub sized : Sized h
  pub count : h.count ≡ g.count + 1
  pub high : h.high ≡ g.high
  pub before : (k : ℕ) → k < g.count → gate_made h k ≡ gate_made g k
  pub here : gate_made h g.count ≡ q

-- one gate more, as it is written where there is room
abbrev added : Gates → ℕ → ℕ → ℕ → Bool → Bool → Gates
added g k a b fold odd = gates_with (set g.kinds g.count k) (set g.left g.count a) (set g.right g.count b) (g.count + 1) g.high fold odd

module _ (g : Gates) (sized : Sized g) (room : g.count < most_gates) where
  added_grown : (k a b : ℕ) (fold odd : Bool) → Grown g (added g k a b fold odd) (gate k a b)
  added_grown k a b fold odd =
      record {
        sized = record { kinds = length-set g.kinds g.count k ∙ sized.kinds; left = length-set g.left g.count a ∙ sized.left; right = length-set g.right g.count b ∙ sized.right };
        count = refl;
        high = refl;
        before = λ i h. let x = other g.kinds i k h in let y = other g.left i a h in let z = other g.right i b h in λ j. gate (x j) (y j) (z j);
        here = let x = same g.kinds k sized.kinds in let y = same g.left a sized.left in let z = same g.right b sized.right in λ j. gate (x j) (y j) (z j);
      }
    where
      other : (l : List ℕ) (i x : ℕ) → i < g.count → get_or (set l g.count x) i 0 ≡ get_or l i 0
      other l i x h = get_or-set_other l g.count i x 0 (λ e. absurd (omega arith))

      same : (l : List ℕ) (x : ℕ) → length l ≡ most_gates → get_or (set l g.count x) g.count 0 ≡ x
      same l x e = get_or-set_same l g.count x 0 (omega arith)

  -- a binary operator's gate
  pub add_grown : (k a b : ℕ) → Grown g (add_gate g k a b) (gate k a b)
  unfolding add_gate
  add_grown k a b = rw (lt-ltb _ _ room) (added_grown k a b true g.odd)

  -- a NOT
  pub invert_grown : (a : ℕ) → Grown g (invert g a) (gate 6 a 0)
  unfolding add_gate invert
  invert_grown a = rw (lt-ltb _ _ room) (added_grown 6 a 0 false (odd_after g.fold g.odd))

-- the line of the next gate
pub new_line_is : (k : ℕ) → k < most_gates → new_line k ≡ k + most_inputs
unfolding new_line
new_line_is k h = rw (lt-ltb _ _ h)

-- ---- counts, where there is room and where there is none

pub add-count : (g : Gates) (k a b : ℕ) → g.count ≤ most_gates + 1 → (add_gate g k a b).count ≡ min (most_gates + 1) (g.count + 1)
unfolding add_gate
add-count g k a b h = by (ltb g.count most_gates) refl
  where
    by : (t : Bool) → ltb g.count most_gates ≡ t
        → (cond t (added g k a b true g.odd) (gates_with g.kinds g.left g.right (most_gates + 1) g.high true g.odd)).count ≡ min (most_gates + 1) (g.count + 1)
    by true e = omega (arith, ltb-true g.count most_gates e)
    by false e = omega (arith, ltb-false g.count most_gates e)

pub invert-count : (g : Gates) (a : ℕ) → g.count ≤ most_gates + 1 → (invert g a).count ≡ min (most_gates + 1) (g.count + 1)
unfolding invert
invert-count g a h = add-count g 6 a 0 h

-- a gate is no input that is read
pub add_high : (g : Gates) (k a b : ℕ) → (add_gate g k a b).high ≡ g.high
unfolding add_gate
add_high g k a b = by (ltb g.count most_gates)
  where
    by : (t : Bool) → (cond t (added g k a b true g.odd) (gates_with g.kinds g.left g.right (most_gates + 1) g.high true g.odd)).high ≡ g.high
    by true = refl
    by false = refl

pub invert_high : (g : Gates) (a : ℕ) → (invert g a).high ≡ g.high
unfolding invert
invert_high g a = add_high g 6 a 0

-- ---- a line that is read

-- how many inputs are read after line v
unfoldable pub high_after : ℕ → ℕ → ℕ
high_after h v = cond (ltb v most_inputs) (cond (leb h v) (v + 1) h) h

pub use_is : (g : Gates) (v : ℕ) → use_line g v ≡ gates_with g.kinds g.left g.right g.count (high_after g.high v) false g.odd
unfolding use_line high_after
use_is g v = by (ltb v most_inputs) (leb g.high v)
  where
    by : (t u : Bool) → cond t (cond u (gates_with g.kinds g.left g.right g.count (v + 1) false g.odd) (with_signs g false g.odd)) (with_signs g false g.odd)
        ≡ gates_with g.kinds g.left g.right g.count (cond t (cond u (v + 1) g.high) g.high) false g.odd
    by true true = refl
    by true false = refl
    by false u = refl

-- an input counts; a gate's line, or a line that was counted, changes nothing
pub high_input : (h v : ℕ) → v < most_inputs → high_after h v ≡ max h (v + 1)
unfolding high_after
high_input h v e = by (leb h v) refl
  where
    by : (t : Bool) → leb h v ≡ t → cond (ltb v most_inputs) (cond t (v + 1) h) h ≡ max h (v + 1)
    by true w = rw (lt-ltb _ _ e) (omega (arith, leb-true h v w))
    by false w = rw (lt-ltb _ _ e) (omega (arith, leb-false h v w))

pub high_known : (h v : ℕ) → (v < most_inputs → v < h) → high_after h v ≡ h
unfolding high_after
high_known h v k = by (ltb v most_inputs) refl (leb h v) refl
  where
    by : (t : Bool) → ltb v most_inputs ≡ t → (u : Bool) → leb h v ≡ u → cond t (cond u (v + 1) h) h ≡ h
    by true et true eu = absurd (omega (arith, k (ltb-true v most_inputs et), leb-true h v eu))
    by true et false eu = refl
    by false et u eu = refl

-- no gates are sized
pub none_sized : Sized no_gates
unfolding no_gates
none_sized = record { kinds = length-replicate {A = ℕ} most_gates 0; left = length-replicate {A = ℕ} most_gates 0; right = length-replicate {A = ℕ} most_gates 0 }

-- What the writer answers for a circuit, by how long the room is: how many bytes it stores, when a longer room is as good, and why it refuses. Assumes nothing.
use mathlib.Core.Path.{◌≡◌, refl, ap, ◌∙◌, sym}
use mathlib.Core.Bool.{Bool, true, false, cond}
use mathlib.Core.Logic.{◌⊎◌, inl, inr}
use Rattle.std.specs.Prelude.{Ok, Err}
use Prim.Native.Nat.{ℕ, ◌+◌, ◌*◌, ◌≤◌, ◌<◌}
use native.Mathlib.Omega.{arith}
use borrow.Author.Tests.{le-leb, leb-true, leb-false}
use lib.Dec.{leb}
use lib.ListN.{length}
use Rattle.circuit.specs.declared.Circuit.{Circuit}
use Rattle.circuit.specs.declared.Refusal.{Refusal}
use Rattle.circuit.specs.declared.Refusal.TheVariants.{Shape, NoRoom}
use Rattle.circuit.specs.Sizes.{most_outputs, most_gates}
use Rattle.circuit.specs.Structs.{listed}
use Rattle.circuit.specs.Rules.{shaped}
use Rattle.circuit.proofs.Shapes.{shape_is}
use Rattle.stored.specs.Stored.{stored}
use Rattle.stored.specs.Writing.{Writing, write_answer}
use Rattle.stored.proofs.Written.{size_is}

module _ (c : Circuit) where
  -- how many bytes its stored form has
  abbrev size : ℕ
  size = length (stored (listed c))

  -- no more than with as many gates and outputs as there may be
  size_most : shaped c.n c.m c.g ≡ true → size ≤ 5 + 5 * most_gates + 3 * most_outputs
  size_most e =
      let s = shape_is c.n c.m c.g e in
      omega (arith, size_is c, s.m_most, s.g_most)

  -- the answer for a room so long, by whether the shape is in range and the room long enough
  abbrev by_tests : Bool → Bool → Writing
  by_tests t u = cond t (cond u (Ok size) (Err NoRoom)) (Err Shape)

  -- two rooms that have space for any stored form are as good as one another
  pub write_any : (a b : ℕ) → 5 + 5 * most_gates + 3 * most_outputs ≤ a → 5 + 5 * most_gates + 3 * most_outputs ≤ b → write_answer c a ≡ write_answer c b
  unfolding write_answer
  write_any a b h l = by (shaped c.n c.m c.g) refl where
    by : (t : Bool) → shaped c.n c.m c.g ≡ t → by_tests t (leb size a) ≡ by_tests t (leb size b)
    by true e = let m = size_most e in ap (by_tests true) (le-leb size a (omega arith) ∙ sym (le-leb size b (omega arith)))
    by false e = refl

  -- a circuit whose bytes were written: its shape is in range, and so many bytes were there room for
  pub record WrittenAs (room k : ℕ) : Type 0 where
    pub shape : shaped c.n c.m c.g ≡ true
    pub size : length (stored (listed c)) ≡ k
    pub fits : k ≤ room
    pub most : k ≤ 5 + 5 * most_gates + 3 * most_outputs

  pub write_size : (room k : ℕ) → write_answer c room ≡ Ok k → WrittenAs room k
  unfolding write_answer
  write_size room k e = by (shaped c.n c.m c.g) (leb size room) refl refl e where
    by : (t u : Bool) → shaped c.n c.m c.g ≡ t → leb size room ≡ u → by_tests t u ≡ Ok k
        → WrittenAs room k
    by true true p q e = let z : size ≡ k = cc in record { shape = p; size = z; fits = omega (arith, leb-true size room q); most = omega (arith, size_most p) }
    by true false p q e = let z : ◌≡◌ {A = ℕ} 0 1 = cc in absurd (omega arith)
    by false u p q e = let z : ◌≡◌ {A = ℕ} 0 1 = cc in absurd (omega arith)

  -- why none is
  pub write_refused : (room : ℕ) (w : Refusal) → write_answer c room ≡ Err w → (w ≡ Shape) ⊎ ((w ≡ NoRoom) × (room < 5 + 5 * most_gates + 3 * most_outputs))
  unfolding write_answer
  write_refused room w e = by (shaped c.n c.m c.g) (leb size room) refl refl e where
    by : (t u : Bool) → shaped c.n c.m c.g ≡ t → leb size room ≡ u → by_tests t u ≡ Err w
        → (w ≡ Shape) ⊎ ((w ≡ NoRoom) × (room < 5 + 5 * most_gates + 3 * most_outputs))
    by true true p q e = let z : ◌≡◌ {A = ℕ} 0 1 = cc in absurd (omega arith)
    by true false p q e = inr (cc, omega (arith, leb-false size room q, size_most p))
    by false u p q e = inl cc

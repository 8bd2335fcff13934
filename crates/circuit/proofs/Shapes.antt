-- What an acceptance shows of a shape, and what is past a test or a first answer. Assumes nothing.
use mathlib.Core.Path.{◌≡◌, refl, sym}
use mathlib.Core.Bool.{Bool, true, false, true≢false, cond, ◌&&◌}
use Prim.Native.Nat.{ℕ, ◌≤◌}
use native.Mathlib.Omega.{arith}
use borrow.Author.Tests.{leb-true, le-leb}
use lib.Dec.{leb}
use Rattle.circuit.specs.declared.Refusal.{Refusal}
use Rattle.circuit.specs.Sizes.{most_inputs, most_outputs, most_gates}
use Rattle.std.specs.Prelude.{Ok, Err}
use Rattle.circuit.specs.Rules.{Answer, done, shaped, and_then}

-- numbers of a circuit, each in its range
pub record Shaped (n m g : ℕ) : Type 0 where
  pub n_least : 1 ≤ n
  pub n_most : n ≤ most_inputs
  pub m_least : 1 ≤ m
  pub m_most : m ≤ most_outputs
  pub g_most : g ≤ most_gates

pub both : (t : Bool) {a : Bool} → (t && a) ≡ true → (t ≡ true) × (a ≡ true)
both true h = (refl, h)
both false h = absurd (true≢false (sym h))

pub past : (t : Bool) {a : Answer} (w : Refusal) → cond t a (Err w) ≡ done → (t ≡ true) × (a ≡ done)
past true w h = (refl, h)
past false w h = let z : ◌≡◌ {A = ℕ} 0 1 = cc in absurd (omega arith)

pub then_done : (a b : Answer) → and_then a b ≡ done → (a ≡ done) × (b ≡ done)
then_done (Ok u) b h = (refl, h)
then_done (Err w) b h = let z : ◌≡◌ {A = ℕ} 0 1 = cc in absurd (omega arith)

pub shape_is : (n m g : ℕ) → shaped n m g ≡ true → Shaped n m g
unfolding shaped
shape_is n m g h =
    let a = both (leb 1 n) h in
    let b = both (leb n most_inputs) a.1 in
    let c = both (leb 1 m) b.1 in
    let d = both (leb m most_outputs) c.1 in
    record { n_least = leb-true 1 n a.0; n_most = leb-true n most_inputs b.0; m_least = leb-true 1 m c.0; m_most = leb-true m most_outputs d.0; g_most = leb-true g most_gates d.1 }

pub shape_true : (n m g : ℕ) → Shaped n m g → shaped n m g ≡ true
unfolding shaped
shape_true n m g s = simp (le-leb 1 n s.n_least, le-leb n most_inputs s.n_most, le-leb 1 m s.m_least, le-leb m most_outputs s.m_most, le-leb g most_gates s.g_most)

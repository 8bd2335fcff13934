-- A bench that stands for something: what the test "is anything open" shows of it, for every call. Assumes nothing.
use mathlib.Core.Path.{◌≡◌, refl, ap, ◌∙◌, sym}
use mathlib.Core.Bool.{Bool, true, false, true≢false}
use Prim.Native.Nat.{ℕ}
use Rattle.circuit.proofs.Shapes.{Shaped, shape_is, both}
use Rattle.bench.specs.declared.Bench.{Bench}
use Rattle.bench.specs.State.{State, Sound, Present, nothing, present}
use Rattle.bench.specs.Held.{empty_bench, full_bench, Stands}
use Rattle.bench.specs.Parts.{standing, open_on}
use Rattle.bench.proofs.Standing.{full_standing}

-- where something is open the numbers are those of a circuit
pub standing-shaped : (opened : Bool) (n m g : ℕ) → standing opened n m g ≡ true → Shaped n m g
standing-shaped opened n m g h = shape_is n m g (both opened h).1

full_open : (s : State) → Sound s → open_on (full_bench s) ≡ true
unfolding full_bench
full_open s ok = full_standing s ok

empty_shut : open_on empty_bench ≡ false
unfolding empty_bench
empty_shut = refl

-- where the test holds, the bench stands for a state
pub when-open : (P : Present → Type 0) (b : Bench) → open_on b ≡ true
    → ((s : State) → Sound s → b ≡ full_bench s → P (present s)) → (p : Present) → Stands b p → P p
when-open P b t f nothing k = absurd (true≢false (sym t ∙ ap open_on k.is ∙ empty_shut))
when-open P b t f (present s) k = f s k.sound k.is

-- where it fails, nothing is present
pub when_shut : (P : Present → Type 0) (b : Bench) → open_on b ≡ false → (b ≡ empty_bench → P nothing) → (p : Present) → Stands b p → P p
when_shut P b t f nothing k = f k.is
when_shut P b t f (present s) k = absurd (true≢false (sym (full_open s k.sound) ∙ ap open_on (sym k.is) ∙ t))

-- What `store` leaves, from what the writer of circuits leaves. Assumes nothing.
use Rattle.bench.specs.Parts.{open_on}
use Rattle.std.specs.Prelude.{Ok, Err}
use mathlib.Core.Path.{◌≡◌, refl, ap, ◌∙◌}
use mathlib.Core.Bool.{true, false, cond}
use mathlib.Core.List.{List}
use Prim.Native.Nat.{ℕ}
use lib.Dec.{leb}
use lib.ListN.{length}
use Rattle.circuit.specs.declared.Circuit.{Circuit}
use Rattle.circuit.specs.declared.Refusal.TheVariants.{Shape, NoRoom, NothingOpen}
use Rattle.circuit.specs.Lines.{Listing}
use Rattle.circuit.specs.Structs.{held, listed}
use Rattle.circuit.proofs.Listed.{listed-held}
use Rattle.stored.specs.Writing.{Writing}
use Rattle.stored.specs.Stored.{stored}
use Rattle.stored.specs.Writing.{write_answer, room_after, Wrote}
use Rattle.targets.specs.Target.{is_matrix}
use Rattle.bench.specs.declared.Bench.{Bench}
use Rattle.bench.specs.State.{State, Sound, present}
use Rattle.bench.specs.Held.{full_bench, circuit_of}
use Rattle.bench.specs.Calls.{store_answer, StorePromise}
use Rattle.bench.proofs.Standing.{full_standing}
use Rattle.bench.proofs.Stood.{when-open, when_shut}

-- the circuit of a state's bench is held as the reader holds it
pub circuit_of_full : (s : State) → circuit_of (full_bench s) ≡ held s.circuit
unfolding full_bench
circuit_of_full s = refl

-- the writer's answer is the call's
write_is_store : (s : State) → Sound s → (room : ℕ) → write_answer (held s.circuit) room ≡ store_answer (present s) room
unfolding write_answer store_answer
write_is_store s ok room =
    let l = ap (λ (c : Listing). length (stored c)) (listed-held (is_matrix s.target) s.circuit ok.circuit) in
    let t = full_standing s ok in
    λ i. cond (t i) (cond (leb (l i) room) (Ok (l i)) (Err NoRoom)) (Err Shape)

pub stored_open : (b : Bench) (R : List ℕ) (r : Writing) (out : List ℕ) → open_on b ≡ true → Wrote (circuit_of b) R r out → StorePromise b R r out
stored_open b R r out t w = when-open _ b t (λ s ok e.
    let c : circuit_of b ≡ held s.circuit = ap circuit_of e ∙ circuit_of_full s in
    let a = ap (λ (x : Circuit). write_answer x (length R)) c ∙ write_is_store s ok (length R) in
    let k = ap (λ (x : Circuit). stored (listed x)) c ∙ ap stored (listed-held (is_matrix s.target) s.circuit ok.circuit) in
    (w.answer ∙ a, w.bytes ∙ (λ i. room_after (a i) (k i) R)))

pub stored_shut : (b : Bench) (R : List ℕ) → open_on b ≡ false → StorePromise b R (Err NothingOpen) R
unfolding store_answer
stored_shut b R t = when_shut _ b t (λ e. (refl, refl))

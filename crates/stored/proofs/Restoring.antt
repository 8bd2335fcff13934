-- From the promises of `read` and `write` to what both leave. Assumes nothing.
use Rattle.std.specs.Prelude.{Ok, Err}
use mathlib.Core.Path.{◌≡◌, refl, ap, ◌∙◌, sym}
use mathlib.Core.Bool.{Bool, true, cond}
use mathlib.Core.List.{List}
use Prim.Native.Nat.{ℕ}
use native.Mathlib.Omega.{arith}
use lib.Dec.{leb}
use lib.ListN.{length}
use Rattle.circuit.specs.declared.Circuit.{Circuit}
use Rattle.circuit.specs.declared.Refusal.{Refusal}
use Rattle.circuit.specs.declared.Refusal.TheVariants.{Shape, NoRoom}
use Rattle.circuit.specs.Structs.{held, listed}
use Rattle.circuit.specs.Rules.{Answer, done, and_then, shaped}
use Rattle.circuit.proofs.Shapes.{shape_true}
use Rattle.circuit.proofs.Listed.{listed-held}
use Rattle.stored.specs.Stored.{stored, listing_in}
use Rattle.stored.specs.Reading.{reading_answer, reading_of}
use Rattle.stored.specs.Writing.{write_answer, Writing, room_after, Wrote, into_room, restore_answer}
use Rattle.stored.proofs.Accept.{accepted, held_is}
use Rattle.stored.proofs.Round.{stored-listing, listing_accepted}

-- what reading shows: nothing refused, and the circuit that the bytes hold; or the refusal
pub done_is : {A : Type 0} (a : Answer) (x : A) {c : A} → Ok c ≡ and_then a (Ok x) → (a ≡ done) × (c ≡ x)
done_is (Ok u) x {c} h = let z : c ≡ x = cc in (refl, z)
done_is (Err w) x h = let z : ◌≡◌ {A = ℕ} 0 1 = cc in absurd (omega arith)

pub refused_is : {A : Type 0} (a : Answer) (x : A) {w : Refusal} → Err w ≡ and_then a (Ok x) → a ≡ Err w
refused_is (Ok u) x h = let z : ◌≡◌ {A = ℕ} 0 1 = cc in absurd (omega arith)
refused_is (Err v) x {w} h = let z : v ≡ w = cc in ap Err z

module _ (only : Bool) (s : List ℕ) where
  pub read_done : (c : Circuit) → Ok c ≡ reading_of only s → (reading_answer only s ≡ done) × (c ≡ held (listing_in s))
  read_done c h = done_is (reading_answer only s) (held (listing_in s)) h

  pub read_refused : (w : Refusal) → Err w ≡ reading_of only s → reading_answer only s ≡ Err w
  read_refused w h = refused_is (reading_answer only s) (held (listing_in s)) h

  -- writing what was read: the answer, and the bytes that went in
  module _ (R out : List ℕ) (c : Circuit) (r : Writing) (read : Ok c ≡ reading_of only s) (wrote : Wrote c R r out) where
    open_to : write_answer c (length R) ≡ into_room done (length s) (length R)
    unfolding write_answer
    open_to =
        let h = (read_done c read).0 in
        let z = (read_done c read).1 in
        let k = held (listing_in s) in
        let t : stored (listed k) ≡ s = ap stored (listed-held only (listing_in s) (listing_accepted only s h)) ∙ stored-listing only s h in
        let y : shaped k.n k.m k.g ≡ true =
        ap (λ (x : Circuit). shaped x.n x.m x.g) (sym (held_is s)) ∙ shape_true _ _ _ (accepted only s h).shape in
        ap (λ (x : Circuit). write_answer x (length R)) z
        ∙ (λ i. cond (y i) (cond (leb (length (t i)) (length R)) (Ok (length (t i))) (Err NoRoom)) (Err Shape))

    pub restored_answer : r ≡ restore_answer only s (length R)
    restored_answer = wrote.answer ∙ open_to ∙ ap (λ (a : Answer). into_room a (length s) (length R)) (sym (read_done c read).0)

    pub restored_bytes : out ≡ room_after r s R
    restored_bytes =
        let h = (read_done c read).0 in
        let t : stored (listed c) ≡ s = ap (λ (x : Circuit). stored (listed x)) (read_done c read).1
        ∙ ap stored (listed-held only (listing_in s) (listing_accepted only s h)) ∙ stored-listing only s h in
        wrote.bytes ∙ (λ i. room_after (sym wrote.answer i) (t i) R)

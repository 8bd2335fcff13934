-- What `write` leaves, from what each part leaves. Assumes nothing.
use Rattle.std.specs.Prelude.{Ok, Err}
use mathlib.Core.Path.{◌≡◌, refl, ap, ◌∙◌, sym}
use mathlib.Core.Bool.{true, false}
use mathlib.Core.List.{List, [], ◌∷◌, ◌++◌}
use Prim.Native.Nat.{ℕ, ◌≤◌, ◌<◌, ◌+◌, ◌*◌}
use native.Mathlib.Nat.{zero-add}
use native.Mathlib.Omega.{arith}
use borrow.Author.Tests.{le-leb, lt-leb}
use lib.ListN.{length, drop, length-append}
use Rattle.circuit.specs.declared.Circuit.{Circuit}
use Rattle.circuit.specs.declared.Refusal.TheVariants.{Shape, NoRoom}
use Rattle.circuit.specs.Rules.{shaped}
use Rattle.circuit.specs.Lines.{upto}
use Rattle.circuit.specs.Structs.{gate_of, out_of, listed}
use Rattle.circuit.proofs.Upto.{upto-length}
use Rattle.stored.specs.Stored.{gate_bytes, out_bytes, stored}
use Rattle.stored.specs.Writing.{Writing, over, write_answer, room_after, Wrote}
use Rattle.stored.proofs.Over.{over_next, gates_size, outs_size}

module _ (c : Circuit) where
  abbrev G : List ℕ
  G = gate_bytes (upto (gate_of c) c.g)

  abbrev O : List ℕ
  O = out_bytes (upto (out_of c) c.m)

  abbrev pub head : List ℕ
  head = 83 ∷ 72 ∷ c.n ∷ c.m ∷ c.g ∷ []

  abbrev pub size : ℕ
  size = 5 + 5 * c.g + 3 * c.m

  pub size_is : length (stored (listed c)) ≡ size
  size_is = omega (arith, length-append G O, gates_size (gate_of c) c.g, outs_size (out_of c) c.m)

  parts : (head ++ G) ++ O ≡ stored (listed c)
  parts = λ i. 83 ∷ 72 ∷ c.n ∷ sym (upto-length (out_of c) c.m) i ∷ sym (upto-length (gate_of c) c.g) i ∷ G ++ O

  module _ (R : List ℕ) where
    left : (r : Writing) → r ≡ write_answer c (length R) → room_after r (stored (listed c)) R ≡ R → Wrote c R r R
    left r a e = record { answer = a; bytes = sym e ∙ ap (λ (x : Writing). room_after x (stored (listed c)) R) a }

    pub no_shape : shaped c.n c.m c.g ≡ false → Wrote c R (Err Shape) R
    unfolding write_answer
    no_shape e = left (Err Shape) (simp e) refl

    module _ (e : shaped c.n c.m c.g ≡ true) where
      pub no_room : length R < size → Wrote c R (Err NoRoom) R
      unfolding write_answer
      no_room h = left (Err NoRoom) (simp (e, lt-leb (length (stored (listed c))) (length R) (omega (arith, size_is)))) refl

      fits : size ≤ length R → Ok size ≡ write_answer c (length R)
      unfolding write_answer
      fits h = simp (e, le-leb (length (stored (listed c))) (length R) (omega (arith, size_is))) (ap Ok (sym size_is))

      pub written : (A B C : List ℕ) → size ≤ length R → A ≡ over R 0 head → B ≡ over A 5 G → C ≡ over B (5 + 5 * c.g) O → Wrote c R (Ok size) C
      written A B C h p q r =
          let w = fits h in
          let zg = gates_size (gate_of c) c.g in
          let zo = outs_size (out_of c) c.m in
          let b : B ≡ over R 0 (head ++ G) = q ∙ over_next R A 0 5 head G p (omega arith) (omega arith) in
          let l : 5 + 5 * c.g ≡ 0 + length (head ++ G) = omega (arith, length-append head G) in
          let d : C ≡ over R 0 ((head ++ G) ++ O) = r ∙ over_next R B 0 (5 + 5 * c.g) (head ++ G) O b l (omega arith) in
          let f : over R 0 ((head ++ G) ++ O) ≡ stored (listed c) ++ drop (length (stored (listed c))) R =
          ap (over R 0) parts ∙ ap (λ (k : ℕ). stored (listed c) ++ drop k R) (zero-add (length (stored (listed c)))) in
          record { answer = w; bytes = d ∙ f ∙ ap (λ (x : Writing). room_after x (stored (listed c)) R) w }

-- two results that meet the promise of `write` are equal
pub wrote_unique : (c : Circuit) (R : List ℕ) (r s : Writing) (p q : List ℕ) → Wrote c R r p → Wrote c R s q → (r ≡ s) × (p ≡ q)
wrote_unique c R r s p q a b = (a.answer ∙ sym b.answer, a.bytes ∙ sym b.bytes)

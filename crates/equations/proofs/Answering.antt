-- Laws of places in a file, and of what is answered on each way through the program. Assumes nothing.
use mathlib.Core.Path.{◌≡◌, refl, ap, ap₂, ◌∙◌, sym}
use mathlib.Core.Bool.{Bool, true, false, cond, not}
use mathlib.Core.Logic.{⊎_elim}
use mathlib.Core.List.{List, [], ◌∷◌, ◌++◌, reverse-append}
use Prim.Native.Nat.{ℕ, suc, ◌+◌, ◌≤◌, ◌<◌, min}
use native.Mathlib.Omega.{arith}
use native.Mathlib.Numerals.{add-one}
use borrow.Author.Tests.{lt-ltb, le-ltb, eq-eqb, ne_eqb}
use lib.Dec.{eqb}
use lib.ListN.{length, get_or, take, drop, length-take}
use lib.Seq.{take-suc, take_at, take_all, take-take}
use Rattle.circuit.specs.declared.Refusal.{Refusal}
use Rattle.circuit.specs.declared.Refusal.TheVariants.{Shape}
use Rattle.std.specs.Prelude.{Ok, Err}
use Rattle.drawing.specs.declared.Refusal.TheVariants.{BadText, BadName, NoOutputs, NotStored}
use Rattle.drawing.specs.Drawing.{Drawn, drawn_answer, drawn_bytes, room_drawn, EquationsPromise}
use Rattle.drawing.proofs.Rooms.{drawn-room, drawn_stored, drawn_refused}
use Rattle.text.specs.Places.{leading, up_to}
use Rattle.text.specs.Numbers.{hex_text}
use Rattle.listing.specs.Printed.{new_line, unreadable_text}
use Rattle.equations.specs.Answered.{ends_in, since_end, drawn_line, stored_most, line_in, answer_text}

-- ---- places

-- one byte more at the end
ends_more : (s : List ℕ) (x : ℕ) → ends_in (s ++ (x ∷ [])) ≡ cond (eqb x 10) (suc (ends_in s)) (ends_in s)
unfolding ends_in
ends_more [] x = refl
ends_more (y ∷ s) x = by (eqb y 10) (eqb x 10) (ends_more s x) where
  by : (t u : Bool) → ends_in (s ++ (x ∷ [])) ≡ cond u (suc (ends_in s)) (ends_in s)
      → cond t (suc (ends_in (s ++ (x ∷ [])))) (ends_in (s ++ (x ∷ []))) ≡ cond u (suc (cond t (suc (ends_in s)) (ends_in s))) (cond t (suc (ends_in s)) (ends_in s))
  by true true e = ap suc e
  by true false e = ap suc e
  by false true e = e
  by false false e = e

since_more : (s : List ℕ) (x : ℕ) → since_end (s ++ (x ∷ [])) ≡ cond (not (eqb x 10)) (suc (since_end s)) 0
unfolding since_end leading
since_more s x = ap (up_to 10) (reverse-append s (x ∷ []))

module _ (s : List ℕ) (i : ℕ) (h : i < length s) where
  taken_more : take (i + 1) s ≡ take i s ++ (get_or s i 0 ∷ [])
  taken_more = ap (λ (k : ℕ). take k s) (add-one i) ∙ take-suc s i 0 h

  -- a byte that ends its line
  module _ (e : get_or s i 0 ≡ 10) where
    pub ends_next : ends_in (take (i + 1) s) ≡ ends_in (take i s) + 1
    ends_next =
        ap ends_in taken_more ∙ ends_more (take i s) (get_or s i 0) ∙ ap (λ (t : Bool). cond t (suc (ends_in (take i s))) (ends_in (take i s))) (eq-eqb _ _ e)
        ∙ sym (add-one (ends_in (take i s)))

    pub since_none : since_end (take (i + 1) s) ≡ 0
    since_none =
        ap since_end taken_more ∙ since_more (take i s) (get_or s i 0) ∙ ap (λ (t : Bool). cond (not t) (suc (since_end (take i s))) 0) (eq-eqb _ _ e)

  -- another
  module _ (e : get_or s i 0 ≡ 10 → ⊥) where
    pub ends_same : ends_in (take (i + 1) s) ≡ ends_in (take i s)
    ends_same =
        ap ends_in taken_more ∙ ends_more (take i s) (get_or s i 0) ∙ ap (λ (t : Bool). cond t (suc (ends_in (take i s))) (ends_in (take i s))) (ne_eqb _ _ e)

    pub since_next : since_end (take (i + 1) s) ≡ since_end (take i s) + 1
    since_next =
        ap since_end taken_more ∙ since_more (take i s) (get_or s i 0) ∙ ap (λ (t : Bool). cond (not t) (suc (since_end (take i s))) 0) (ne_eqb _ _ e)
        ∙ sym (add-one (since_end (take i s)))

-- the bytes before a place, none of them past the file's end
pub taken-all : (s : List ℕ) (place i : ℕ) → i ≡ min place (length s) → take i s ≡ take place s
taken-all s place i e = sym (take-take i place s (omega arith)) ∙ take_all i (take place s) (omega (arith, length-take place s))

-- ---- the answer

-- a file that is too long: the bytes past those that the program reads change nothing
pub too_long : (s : List ℕ) → 65535 < length s → unreadable_text ≡ answer_text s
unfolding answer_text
too_long s h = rw (lt-ltb 65535 (length s) h)

-- what stands first in the room after an answer is written as the bytes that the answer counts
line_said : (s : List ℕ) (d : Drawn) (bytes room : List ℕ) → ((k : ℕ) → d ≡ Ok k → (length bytes ≡ k) × (k ≤ stored_most))
    → line_in s d (room_drawn d bytes room) ≡ drawn_line s d bytes
line_said s (Ok k) bytes room f =
    let m : length bytes ≡ min k stored_most = omega (arith, (f k refl).0, (f k refl).1) in
    ap (λ (l : List ℕ). hex_text l ++ new_line) (take_at bytes (drop (length bytes) room) (min k stored_most) m)
line_said s (Err (BadText place)) bytes room f = refl
line_said s (Err (BadName place)) bytes room f = refl
line_said s (Err NoOutputs) bytes room f = refl
line_said s (Err (NotStored w)) bytes room f = refl

-- a file that is read into a room of 2,048 bytes
pub is_read : (s room out : List ℕ) (r : Drawn) → length s ≤ 65535 → length room ≡ stored_most → EquationsPromise s room r out → line_in s r out ≡ answer_text s
unfolding answer_text
is_read s room out r h l p =
    let full = drawn_answer s stored_most in
    let bytes = drawn_bytes s in
    let same : drawn_answer s (length room) ≡ full = ap (drawn_answer s) l in
    let held : out ≡ room_drawn full bytes room = p.bytes ∙ drawn-room s room ∙ ap (λ (d : Drawn). room_drawn d bytes room) same in
    let few : (k : ℕ) → full ≡ Ok k → (length bytes ≡ k) × (k ≤ stored_most) = λ k e. let f = drawn_stored s stored_most k e in (f.0, omega (arith, f.1.1)) in
    let said : line_in s r out ≡ drawn_line s full bytes = ap₂ (line_in s) (p.answer ∙ same) held ∙ line_said s full bytes room few in
    said ∙ sym (rw (le-ltb 65535 (length s) h))

-- the room is never too short: of the refusals of storing only 1 is written
pub never_short : (s : List ℕ) (w : Refusal) → drawn_answer s stored_most ≡ Err (NotStored w) → w ≡ Shape
never_short s w e = ⊎_elim (λ p. p) (λ p. absurd (omega (arith, p.1))) (drawn_refused s stored_most w e)

-- What is read of an equation file stands first in a room: a longer room than 2,048 bytes is as good. Assumes nothing.
use Rattle.std.specs.Prelude.{Ok, Err}
use mathlib.Core.Path.{◌≡◌, refl, ap, ap₂, ◌∙◌, sym, subst}
use mathlib.Core.List.{List, ◌++◌}
use Prim.Native.Nat.{ℕ, ◌≤◌, ◌<◌, min}
use native.Mathlib.Omega.{arith}
use native.Mathlib.Decide.{dec_lt}
use lib.ListN.{length}
use Rattle.drawing.specs.declared.Refusal.TheVariants.{BadText, BadName, NoOutputs, NotStored}
use Rattle.drawing.specs.Drawing.{Drawn, drawn_answer, drawn_bytes, room_drawn, EquationsPromise}
use Rattle.drawing.proofs.Rooms.{drawn-room, drawn_any, drawn_stored}
use Rattle.talk.specs.Words.{read_name}
use Rattle.talk.specs.Texts.{hex_line, drawn_text}
use Rattle.talk.specs.Saying.{stored_most, drawn_in, DrawsFirst}
use Rattle.talk.proofs.Storing.{first_stored}

-- the promise of a reading, over the same file by another name
pub draws_as : {s t room out : List ℕ} {r : Drawn} → s ≡ t → EquationsPromise s room r out → EquationsPromise t room r out
draws_as {s} {t} {room} {out} {r} e p = subst (λ (x : List ℕ). EquationsPromise x room r out) e p

-- an answer that tells how many bytes were stored, no more than are looked at
abbrev SizedFile : Drawn → ℕ → Type 0
SizedFile d size = (k : ℕ) → d ≡ Ok k → (k ≡ size) × (size ≤ stored_most)

-- the bytes stand first in the room and are said
drawn_said : (d : Drawn) (bytes room rest : List ℕ) → SizedFile d (length bytes) → drawn_in d (room_drawn d bytes room ++ rest) ≡ drawn_text d bytes
drawn_said (Ok k) bytes room rest f = ap (hex_line read_name k) (first_stored k bytes room rest (f k refl))
drawn_said (Err (BadText place)) bytes room rest f = refl
drawn_said (Err (BadName place)) bytes room rest f = refl
drawn_said (Err NoOutputs) bytes room rest f = refl
drawn_said (Err (NotStored w)) bytes room rest f = refl

module _ (s : List ℕ) where
  -- a longer room is as good
  drawn_least : (room : ℕ) → drawn_answer s (min room stored_most) ≡ drawn_answer s room
  drawn_least room = by (dec_lt room stored_most) where
    by : Dec (room < stored_most) → drawn_answer s (min room stored_most) ≡ drawn_answer s room
    by (yes h) = let m : min room stored_most ≡ room = omega arith in ap (drawn_answer s) m
    by (no h) = drawn_any s (min room stored_most) room (omega (arith, h)) (omega (arith, h))

  -- the answer tells how many bytes there are
  drawn_sized : (room : ℕ) → SizedFile (drawn_answer s room) (length (drawn_bytes s))
  drawn_sized room k e = let f = drawn_stored s room k e in (sym f.0, omega (arith, f.0, f.1.1))

  -- what was read into a part of a room is first in the room
  pub draws_first : (wanted lent : ℕ) (room rest after : List ℕ) (r : Drawn) → lent ≡ min wanted stored_most → length room ≡ lent → EquationsPromise s room r after
      → DrawsFirst s wanted r (after ++ rest)
  draws_first wanted lent room rest after r e l p =
      let bytes = drawn_bytes s in
      let full = drawn_answer s wanted in
      let same : drawn_answer s (length room) ≡ full = ap (drawn_answer s) (l ∙ e) ∙ drawn_least wanted in
      let held : after ≡ room_drawn full bytes room = p.bytes ∙ drawn-room s room ∙ ap (λ (d : Drawn). room_drawn d bytes room) same in
      record { said = ap₂ (λ (d : Drawn) (x : List ℕ). drawn_in d (x ++ rest)) (p.answer ∙ same) held ∙ drawn_said full bytes room rest (drawn_sized wanted) }

-- What is built is no longer than any stored form: a longer room than 2,048 bytes is as good. Assumes nothing.
use Rattle.std.specs.Prelude.{Ok, Err}
use mathlib.Core.Path.{◌≡◌, refl, ap, ◌∙◌, subst}
use mathlib.Core.Bool.{Bool, true, cond}
use mathlib.Core.List.{List, ◌++◌}
use Prim.Native.Nat.{ℕ, ◌≤◌, min}
use native.Mathlib.Omega.{arith}
use lib.Dec.{leb}
use lib.ListN.{length}
use Rattle.circuit.specs.declared.Refusal.TheVariants.{NoRoom}
use Rattle.circuit.specs.Lines.{Listing}
use Rattle.circuit.specs.Rules.{Answer, done, listing_answer}
use Rattle.circuit.proofs.RuleLaws.{circuit_fits}
use Rattle.circuit.proofs.Shapes.{shape_is}
use Rattle.stored.specs.Writing.{Writing}
use Rattle.stored.specs.Stored.{stored}
use Rattle.stored.specs.Writing.{into_room, room_after}
use Rattle.builder.specs.Call.{built, refusal, build_answer, Builds}
use Rattle.builder.specs.Late.{late_built, late_refusal, late_answer, BuildsLate}
use Rattle.builder.proofs.Theorems.{sound_circuit, late_sound}
use Rattle.talk.specs.Saying.{stored_most, WrittenFirst}
use Rattle.talk.proofs.Storing.{Sized, stored_short, first_said, cond_sized, leb_least}

-- ---- a circuit, sound where nothing is refused

module _ (a : Answer) (c : Listing) (sound : a ≡ done → listing_answer true c ≡ done) where
  -- how many bytes it has
  abbrev size : ℕ
  size = length (stored c)

  -- no more than any stored form has
  short : a ≡ done → size ≤ stored_most
  short e = omega (arith, stored_short c (shape_is _ _ _ (circuit_fits true c (sound e)).shaped-true))

  -- a longer room is as good
  room_least : (room : ℕ) → into_room a size (min room stored_most) ≡ into_room a size room
  room_least room = by a refl where
    by : (x : Answer) → a ≡ x → into_room x size (min room stored_most) ≡ into_room x size room
    by (Ok _) e = ap (λ (t : Bool). cond t (Ok size) (Err NoRoom)) (leb_least size room (short e))
    by (Err w) e = refl

  -- the answer tells how many bytes there are
  room_sized : (room : ℕ) → Sized (into_room a size room) size
  room_sized room = by a refl where
    by : (x : Answer) → a ≡ x → Sized (into_room x size room) size
    by (Ok _) e = cond_sized (leb size room) size NoRoom (short e)
    by (Err w) e = λ k q. absurd (cc)

  -- what was written in a part of a room is first in the room
  written_first : (wanted lent : ℕ) (room rest after : List ℕ) (w : Writing) → lent ≡ min wanted stored_most → length room ≡ lent
      → w ≡ into_room a size (length room) → after ≡ room_after (into_room a size (length room)) (stored c) room
      → WrittenFirst (into_room a size wanted) (stored c) w (after ++ rest)
  written_first wanted lent room rest after w e l f g =
      record {
        said = λ name. first_said name (stored c) room rest after w (into_room a size (length room)) (into_room a size wanted)
            (ap (into_room a size) (l ∙ e) ∙ room_least wanted) (room_sized wanted) f g;
      }

-- ---- `build`

-- its promise, over the same rows by another name
pub builds_as : {n D : ℕ} {us vs room out : List ℕ} {w : Writing} → us ≡ vs → Builds n us D room w out → Builds n vs D room w out
builds_as {n} {D} {us} {vs} {room} {out} {w} e b = subst (λ (ts : List ℕ). Builds n ts D room w out) e b

pub builds_first : (n : ℕ) (ts : List ℕ) (D : ℕ) (wanted lent : ℕ) (room rest after : List ℕ) (w : Writing) → lent ≡ min wanted stored_most → length room ≡ lent
    → Builds n ts D room w after → WrittenFirst (build_answer n ts D wanted) (stored (built n ts D)) w (after ++ rest)
unfolding build_answer
builds_first n ts D wanted lent room rest after w e l b =
    written_first (refusal n ts D) (built n ts D) (sound_circuit n ts D) wanted lent room rest after w e l b.answer b.bytes

-- ---- `late`

-- its promise, over the same lists by other names
pub late_as : {n : ℕ} {ps qs us vs xs ys room out : List ℕ} {w : Writing} → ps ≡ qs → us ≡ vs → xs ≡ ys → BuildsLate n ps us xs room w out → BuildsLate n qs vs ys room w out
late_as {n} {ps} {qs} {us} {vs} {xs} {ys} {room} e f g b =
    record {
      answer = b.answer ∙ (λ i. late_answer n (e i) (f i) (g i) (length room));
      bytes = b.bytes ∙ (λ i. room_after (late_answer n (e i) (f i) (g i) (length room)) (stored (late_built n (e i) (f i) (g i))) room);
    }

pub late_first : (n : ℕ) (arrivals ts limits : List ℕ) (wanted lent : ℕ) (room rest after : List ℕ) (w : Writing) → lent ≡ min wanted stored_most → length room ≡ lent
    → BuildsLate n arrivals ts limits room w after → WrittenFirst (late_answer n arrivals ts limits wanted) (stored (late_built n arrivals ts limits)) w (after ++ rest)
unfolding late_answer
late_first n arrivals ts limits wanted lent room rest after w e l b =
    written_first (late_refusal n arrivals ts limits) (late_built n arrivals ts limits) (late_sound n arrivals ts limits) wanted lent room rest after w e l
    b.answer b.bytes

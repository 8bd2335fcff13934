-- Stored bytes in a lent room: no stored form is longer than 1,341 bytes, so that a longer room is as good as one of 2,048. Assumes nothing.
use Rattle.std.specs.Prelude.{Ok, Err}
use mathlib.Core.Path.{◌≡◌, refl, ap, ap₂, ◌∙◌, sym}
use mathlib.Core.Bool.{Bool, true, false, cond}
use mathlib.Core.List.{List, ◌++◌, append_assoc}
use Prim.Native.Nat.{ℕ, ◌+◌, ◌*◌, ◌≤◌, ◌<◌, min}
use native.Mathlib.Omega.{arith}
use native.Mathlib.Decide.{dec_lt}
use borrow.Author.Tests.{le-leb, lt-leb}
use lib.Dec.{leb}
use lib.ListN.{length, take, drop, length-take, length-append}
use lib.Seq.{take_at}
use Rattle.circuit.specs.declared.Refusal.{Refusal}
use Rattle.circuit.specs.declared.Refusal.TheVariants.{NoRoom}
use Rattle.circuit.specs.Sizes.{most_outputs, most_gates}
use Rattle.circuit.specs.Lines.{Listing}
use Rattle.circuit.proofs.Shapes.{Shaped, shape_is}
use Rattle.stored.specs.Writing.{Writing}
use Rattle.stored.specs.Stored.{gate_bytes, out_bytes, stored}
use Rattle.stored.specs.Writing.{room_after}
use Rattle.stored.proofs.Round.{gate_bytes-length, out_bytes-length}
use Rattle.bench.specs.declared.Bench.{Bench}
use Rattle.bench.specs.State.{Present, nothing, present}
use Rattle.bench.specs.Held.{Stands}
use Rattle.bench.specs.Calls.{store_answer, stored_of, StorePromise}
use Rattle.bench.proofs.Standing.{full_standing}
use Rattle.talk.specs.Texts.{hex_line, written_text}
use Rattle.talk.specs.Saying.{stored_most, written_in, StoresFirst}

-- ---- how long a stored form is

-- with as many gates and outputs as there may be
pub stored_short : (c : Listing) → Shaped c.inputs (length c.outs) (length c.gates) → length (stored c) ≤ 5 + 5 * most_gates + 3 * most_outputs
stored_short c s =
    omega (arith, length-append (gate_bytes c.gates) (out_bytes c.outs), gate_bytes-length c.gates, out_bytes-length c.outs, s.m_most, s.g_most)

-- ---- what was written first in a room

-- an answer that tells how many bytes were written, no more than are looked at
abbrev pub Sized : Writing → ℕ → Type 0
Sized a size = (k : ℕ) → a ≡ Ok k → (k ≡ size) × (size ≤ stored_most)

-- a lent part of a room is as long as it was asked for
pub lent_long : (wanted : ℕ) {lent : ℕ} (room : List ℕ) → lent ≡ min wanted stored_most → stored_most ≤ length room → length (take lent room) ≡ lent
lent_long wanted {lent} room e h = omega (arith, e, h, length-take lent room)

-- bytes that stand first in a room, no more than are looked at
pub first_stored : (k : ℕ) (bytes room rest : List ℕ) → (k ≡ length bytes) × (length bytes ≤ stored_most)
    → take (min k stored_most) ((bytes ++ drop (length bytes) room) ++ rest) ≡ bytes
first_stored k bytes room rest e =
    let m : length bytes ≡ min k stored_most = omega (arith, e.0, e.1) in
    ap (take (min k stored_most)) (append_assoc bytes (drop (length bytes) room) rest) ∙ take_at bytes (drop (length bytes) room ++ rest) (min k stored_most) m

-- the bytes stand first in the room and are said
written_said : (name : List ℕ) (a : Writing) (bytes room rest : List ℕ) → Sized a (length bytes)
    → written_in name a (room_after a bytes room ++ rest) ≡ written_text name a bytes
written_said name (Ok k) bytes room rest f = ap (hex_line name k) (first_stored k bytes room rest (f k refl))
written_said name (Err w) bytes room rest f = refl

-- the same where a shorter room was lent, to the same effect
pub first_said : (name bytes room rest after : List ℕ) (w lent full : Writing) → lent ≡ full → Sized full (length bytes) → w ≡ lent → after ≡ room_after lent bytes room
    → written_in name w (after ++ rest) ≡ written_text name full bytes
first_said name bytes room rest after w lent full e f p q =
    ap₂ (λ (x : Writing) (y : List ℕ). written_in name x (y ++ rest)) (p ∙ e) (q ∙ ap (λ (x : Writing). room_after x bytes room) e)
    ∙ written_said name full bytes room rest f

-- an answer by whether the room is long enough
pub cond_sized : (t : Bool) (n : ℕ) (w : Refusal) → n ≤ stored_most → Sized (cond t (Ok n) (Err w)) n
cond_sized true n w h k e = (cc, h)
cond_sized false n w h k e = absurd (cc)

-- a longer room is as good
pub leb_least : (n room : ℕ) → n ≤ stored_most → leb n (min room stored_most) ≡ leb n room
leb_least n room h = by (dec_lt room n) where
  by : Dec (room < n) → leb n (min room stored_most) ≡ leb n room
  by (yes l) = lt-leb n (min room stored_most) (omega arith) ∙ sym (lt-leb n room l)
  by (no l) = le-leb n (min room stored_most) (omega (arith, l)) ∙ sym (le-leb n room (omega (arith, l)))

-- ---- storing

-- a longer room is as good to what is present
store_least : (p : Present) → length (stored_of p) ≤ stored_most → (room : ℕ) → store_answer p (min room stored_most) ≡ store_answer p room
unfolding store_answer
store_least nothing h room = refl
store_least (present s) h room =
    let n = length (stored s.circuit) in
    ap (λ (t : Bool). cond t (Ok n) (Err NoRoom)) (leb_least n room h)

-- the answer tells how many bytes there are
store_sized : (p : Present) → length (stored_of p) ≤ stored_most → (room : ℕ) → Sized (store_answer p room) (length (stored_of p))
unfolding store_answer
store_sized nothing h room k e = absurd (cc)
store_sized (present s) h room k e = let n = length (stored s.circuit) in cond_sized (leb n room) n NoRoom h k e

-- what stands on a bench is short enough
short_enough : (b : Bench) (p : Present) → Stands b p → length (stored_of p) ≤ stored_most
short_enough b nothing k = omega arith
short_enough b (present s) k =
    let c = s.circuit in
    omega (arith, stored_short c (shape_is c.inputs (length c.outs) (length c.gates) (full_standing s k.sound)))

-- what was stored in a part of a room, of at most 2,048 bytes, is first in the room
pub stores_first : (b : Bench) (size lent : ℕ) (room rest after : List ℕ) (w : Writing) → lent ≡ min size stored_most → length room ≡ lent
    → StorePromise b room w after → StoresFirst b size w (after ++ rest)
stores_first b size lent room rest after w e l f =
    record {
      said = λ name p k.
          let short = short_enough b p k in
          first_said name (stored_of p) room rest after w (store_answer p (length room)) (store_answer p size)
          (ap (store_answer p) (l ∙ e) ∙ store_least p short size) (store_sized p short size) (f p k).0 (f p k).1;
    }

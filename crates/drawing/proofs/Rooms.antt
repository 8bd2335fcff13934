-- The lent room of an equation file: how many bytes are stored, that a longer room is as good, and why a circuit is not stored. Assumes nothing.
use mathlib.Core.Path.{◌≡◌, refl, sym, ap, ◌∙◌}
use mathlib.Core.Logic.{◌⊎◌}
use mathlib.Core.Bool.{Bool, true, false, cond}
use mathlib.Core.List.{List}
use Prim.Native.Nat.{ℕ, ◌+◌, ◌*◌, ◌≤◌, ◌<◌}
use native.Mathlib.Omega.{arith}
use lib.ListN.{length}
use Rattle.circuit.specs.declared.Circuit.{Circuit}
use Rattle.circuit.specs.declared.Refusal.{Refusal}
use Rattle.circuit.specs.declared.Refusal.TheVariants.{Shape, NoRoom}
use Rattle.circuit.specs.Sizes.{most_outputs, most_gates}
use Rattle.stored.specs.Writing.{Writing, write_answer}
use Rattle.std.specs.Prelude.{Result, Ok, Err}
use Rattle.formula.specs.declared.Why.{Why}
use Rattle.formula.specs.declared.Why.TheVariants.{Text, Name}
use Rattle.sheet.specs.Sheet.{file_of}
use Rattle.drawing.specs.declared.Refusal.{Refusal as Cause}
use Rattle.drawing.specs.declared.Refusal.TheVariants.{NoOutputs, NotStored}
use Rattle.drawing.specs.Drawing.{whole_book, circuit_in, sketch_book, sketch_by, sketch_of, circuit_or, drawn_circuit, written_as, answer_by, drawn_answer, drawn_bytes, room_drawn, drawn_room}
use Rattle.drawing.proofs.Writer.{write_any, write_size, write_refused}

-- the room afterwards, by the answer
pub drawn-room : (s room : List ℕ) → drawn_room s room ≡ room_drawn (drawn_answer s (length room)) (drawn_bytes s) room
unfolding drawn_room
drawn-room s room = refl

-- two rooms that have space for any stored form are as good as one another
pub drawn_any : (s : List ℕ) (a b : ℕ) → 5 + 5 * most_gates + 3 * most_outputs ≤ a → 5 + 5 * most_gates + 3 * most_outputs ≤ b → drawn_answer s a ≡ drawn_answer s b
unfolding drawn_answer
drawn_any s a b h l = by (sketch_of s)
  where
    by : (r : Result Circuit Cause) → answer_by r a ≡ answer_by r b
    by (Ok c) = ap written_as (write_any c a b h l)
    by (Err w) = refl

-- a file without a circuit has a bad text or name, or no outputs
never-stored : (s : List ℕ) (x : Refusal) → sketch_of s ≡ Err (NotStored x) → ⊥
unfolding sketch_of sketch_book
never-stored s x e = by (file_of s).step e
  where
    book : (t : Bool) → cond t (Ok (circuit_in s (file_of s).book)) (Err NoOutputs) ≡ Err (NotStored x) → ⊥
    book true e = let z : ◌≡◌ {A = ℕ} 0 1 = cc in omega arith
    book false e = let z : ◌≡◌ {A = ℕ} 0 1 = cc in omega arith

    by : (r : Result ℕ Why) → sketch_by s (file_of s).book r ≡ Err (NotStored x) → ⊥
    by (Ok q) e = book (whole_book s (file_of s).book) e
    by (Err (Text q)) e = let z : ◌≡◌ {A = ℕ} 0 1 = cc in omega arith
    by (Err (Name q)) e = let z : ◌≡◌ {A = ℕ} 0 1 = cc in omega arith

-- ---- what was answered tells what was found

-- a file whose circuit was stored, or not stored, has one, and this is what storing answered
pub record Sketched (s : List ℕ) (room : ℕ) (w : Writing) : Type 0 where
  pub sound : sketch_of s ≡ Ok (drawn_circuit s)
  pub written : write_answer (drawn_circuit s) room ≡ w

sketched : (s : List ℕ) (room : ℕ) (c : Circuit) (w : Writing) → sketch_of s ≡ Ok c → write_answer c room ≡ w → Sketched s room w
sketched s room c w ec ew =
    let k : drawn_circuit s ≡ c = ap circuit_or ec in
    record { sound = ec ∙ ap Ok (sym k); written = ap (λ (c : Circuit). write_answer c room) k ∙ ew }

pub is_stored : (s : List ℕ) (room k : ℕ) → drawn_answer s room ≡ Ok k → Sketched s room (Ok k)
unfolding drawn_answer
is_stored s room k e = by (sketch_of s) refl e
  where
    circuit : (c : Circuit) → sketch_of s ≡ Ok c → (w : Writing) → write_answer c room ≡ w → written_as w ≡ Ok k → Sketched s room (Ok k)
    circuit c ec (Ok j) ew e = let z : j ≡ k = cc in sketched s room c (Ok k) ec (ew ∙ ap Ok z)
    circuit c ec (Err w) ew e = let z : ◌≡◌ {A = ℕ} 0 1 = cc in absurd (omega arith)

    by : (r : Result Circuit Cause) → sketch_of s ≡ r → answer_by r room ≡ Ok k → Sketched s room (Ok k)
    by (Ok c) ec e = circuit c ec (write_answer c room) refl e
    by (Err w) ec e = let z : ◌≡◌ {A = ℕ} 0 1 = cc in absurd (omega arith)

pub not-stored : (s : List ℕ) (room : ℕ) (x : Refusal) → drawn_answer s room ≡ Err (NotStored x) → Sketched s room (Err x)
unfolding drawn_answer
not-stored s room x e = by (sketch_of s) refl e
  where
    circuit : (c : Circuit) → sketch_of s ≡ Ok c → (w : Writing) → write_answer c room ≡ w → written_as w ≡ Err (NotStored x) → Sketched s room (Err x)
    circuit c ec (Ok j) ew e = let z : ◌≡◌ {A = ℕ} 0 1 = cc in absurd (omega arith)
    circuit c ec (Err w) ew e = let z : w ≡ x = cc in sketched s room c (Err x) ec (ew ∙ ap Err z)

    by : (r : Result Circuit Cause) → sketch_of s ≡ r → answer_by r room ≡ Err (NotStored x) → Sketched s room (Err x)
    by (Ok c) ec e = circuit c ec (write_answer c room) refl e
    by (Err w) ec e = let k : w ≡ NotStored x = cc in absurd (never-stored s x (ec ∙ ap Err k))

-- how many bytes are stored: no more than any stored form has
pub drawn_stored : (s : List ℕ) (room k : ℕ) → drawn_answer s room ≡ Ok k
    → (length (drawn_bytes s) ≡ k) × ((k ≤ room) × (k ≤ 5 + 5 * most_gates + 3 * most_outputs))
unfolding drawn_bytes
drawn_stored s room k e = let w = write_size (drawn_circuit s) room k (is_stored s room k e).written in (w.size, (w.fits, w.most))

-- why a circuit is not stored: it is too large, or the room is too short for it
pub drawn_refused : (s : List ℕ) (room : ℕ) (w : Refusal) → drawn_answer s room ≡ Err (NotStored w)
    → (w ≡ Shape) ⊎ ((w ≡ NoRoom) × (room < 5 + 5 * most_gates + 3 * most_outputs))
drawn_refused s room w e = write_refused (drawn_circuit s) room w (not-stored s room w e).written

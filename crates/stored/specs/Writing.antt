-- What storing a circuit answers, and what it leaves in the lent room.
use Rattle.std.specs.Prelude.{◌≡◌, Result, Ok, Err, Bool, List, ◌++◌, ℕ, ◌+◌, ◌*◌, leb, length, take, drop}
use Rattle.circuit.specs.declared.Circuit.{Circuit}
use Rattle.circuit.specs.declared.Refusal.{Refusal}
use Rattle.circuit.specs.declared.Refusal.TheVariants.{Shape, NoRoom}
use Rattle.circuit.specs.Structs.{listed}
use Rattle.circuit.specs.Rules.{Answer, refusal_no, done, and_then, unless, shaped}
use Rattle.stored.specs.Stored.{stored}
use Rattle.stored.specs.Reading.{reading_answer}

-- vs written over a list from `at` on
abbrev pub over : List ℕ → ℕ → List ℕ → List ℕ
over room at vs = take at room ++ vs ++ drop (at + length vs) room

-- what storing answers: how many bytes were written, or why none
abbrev pub Writing : Type 0
Writing = Result ℕ Refusal

-- an answer and the size of what is then to be stored, for a room so long: a room that is too short (11) is found last
abbrev pub into_room : Answer → ℕ → ℕ → Writing
into_room a size room = and_then a (unless (leb size room) NoRoom (Ok size))

-- how many bytes were written, or why none: a struct out of range holds no circuit (1); the room is too short (11)
unfoldable pub write_answer : Circuit → ℕ → Writing
write_answer c room =
    let size = length (stored (listed c)) in
    unless (shaped c.n c.m c.g) Shape (into_room done size room)

-- the room afterwards: the bytes first and the rest as it was, or all as it was
abbrev pub room_after : Writing → List ℕ → List ℕ → List ℕ
room_after (Ok k) bytes room = bytes ++ drop (length bytes) room
room_after (Err w) bytes room = room

-- what `write` promises of its answer and of the room
pub record Wrote (c : Circuit) (room : List ℕ) (r : Writing) (out : List ℕ) : Type 0 where
  pub answer : r ≡ write_answer c (length room)
  pub bytes : out ≡ room_after (write_answer c (length room)) (stored (listed c)) room

-- an answer as one number, for other languages: how many bytes, or 65,536 times the refusal's number
abbrev pub writing_code : Writing → ℕ
writing_code (Ok k) = k
writing_code (Err w) = 65536 * refusal_no w

-- what reading some bytes and storing the circuit again answers, for a room so long
abbrev pub restore_answer : Bool → List ℕ → ℕ → Writing
restore_answer only s room = into_room (reading_answer only s) (length s) room

-- what `restored` promises: an accepted circuit's bytes come out as they went in
pub record Restored (only : Bool) (s room : List ℕ) (r : ℕ) (out : List ℕ) : Type 0 where
  pub answer : r ≡ writing_code (restore_answer only s (length room))
  pub bytes : out ≡ room_after (restore_answer only s (length room)) s room

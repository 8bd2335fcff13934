-- What reading an equation file gives, and what it leaves in the lent room.
use Rattle.std.specs.Prelude.{◌≡◌, Bool, cond, List, ◌++◌, ℕ, length, drop, Result, Ok, Err}
use Rattle.circuit.specs.declared.Circuit.{Circuit}
use Rattle.circuit.specs.Rules.{refusal_no}
use Rattle.circuit.specs.Structs.{listed, no_circuit}
use Rattle.stored.specs.Stored.{stored}
use Rattle.stored.specs.Writing.{Writing, write_answer}
use Rattle.formula.specs.declared.Why.{Why}
use Rattle.formula.specs.declared.Why.TheVariants.{Text, Name}
use Rattle.sheet.specs.declared.Book.{Book}
use Rattle.sheet.specs.Sheet.{file_of}
use Rattle.drawing.specs.declared.Refusal.{Refusal}
use Rattle.drawing.specs.declared.Refusal.TheVariants.{BadText, BadName, NoOutputs, NotStored}
use Rattle.drawing.specs.Outputs.{numbers_of, whole_of}
use Rattle.drawing.specs.Numbering.{circuit_of}

-- how many bytes were stored, or why none
abbrev pub Drawn : Type 0
Drawn = Result ℕ Refusal

-- the number of an answer: 0 where the circuit was stored
abbrev pub drawn_no : Drawn → ℕ
drawn_no (Ok k) = 0
drawn_no (Err (BadText place)) = 15
drawn_no (Err (BadName place)) = 16
drawn_no (Err NoOutputs) = 17
drawn_no (Err (NotStored w)) = refusal_no w

-- the place of bad text and of a bad name: how many bytes stand before it; else 0
abbrev pub drawn_place : Drawn → ℕ
drawn_place (Ok k) = 0
drawn_place (Err (BadText place)) = place
drawn_place (Err (BadName place)) = place
drawn_place (Err NoOutputs) = 0
drawn_place (Err (NotStored w)) = 0

-- how many bytes were stored
abbrev pub drawn_count : Drawn → ℕ
drawn_count (Ok k) = k
drawn_count (Err w) = 0

-- why a text that is no file is refused: 15 or 16
abbrev pub refused_for : Why → Refusal
refused_for (Text q) = BadText q
refused_for (Name q) = BadName q

-- the numbers of a book's names
abbrev pub numbers_in : List ℕ → Book → List ℕ
numbers_in s b = numbers_of s b.starts b.names.n

-- a book's outputs are whole: there is an input and an output, and no gap
abbrev pub whole_book : List ℕ → Book → Bool
whole_book s b = whole_of (numbers_in s b) b.names.lines b.names.n b.gates.high

-- the circuit of a book
abbrev pub circuit_in : List ℕ → Book → Circuit
circuit_in s b = circuit_of (numbers_in s b) b

-- the circuit of a file that was read, or 17
unfoldable pub sketch_book : List ℕ → Book → Result Circuit Refusal
sketch_book s b = cond (whole_book s b) (Ok (circuit_in s b)) (Err NoOutputs)

-- the same, or 15 or 16
abbrev pub sketch_by : List ℕ → Book → Result ℕ Why → Result Circuit Refusal
sketch_by s b (Ok q) = sketch_book s b
sketch_by s b (Err w) = Err (refused_for w)

-- the circuit of a file, or why it has none
unfoldable pub sketch_of : List ℕ → Result Circuit Refusal
sketch_of s = let l = file_of s in sketch_by s l.book l.step

-- a circuit, or none in its place
abbrev pub circuit_or : Result Circuit Refusal → Circuit
circuit_or (Ok c) = c
circuit_or (Err w) = no_circuit

-- the circuit of a file, or none
abbrev pub drawn_circuit : List ℕ → Circuit
drawn_circuit s = circuit_or (sketch_of s)

-- what storing answers, as the answer to a file
abbrev pub written_as : Writing → Drawn
written_as (Ok k) = Ok k
written_as (Err w) = Err (NotStored w)

-- 15 or 16, whichever is first, then 17, then what storing is refused for: 1, and 11
abbrev pub answer_by : Result Circuit Refusal → ℕ → Drawn
answer_by (Ok c) room = written_as (write_answer c room)
answer_by (Err w) room = Err w

-- what is answered to a file, for a room so long
unfoldable pub drawn_answer : List ℕ → ℕ → Drawn
drawn_answer s room = answer_by (sketch_of s) room

-- the stored bytes of the circuit of a file that is read
unfoldable pub drawn_bytes : List ℕ → List ℕ
drawn_bytes s = stored (listed (drawn_circuit s))

-- the room after an answer: the bytes first and the rest as it was, or all as it was
abbrev pub room_drawn : Drawn → List ℕ → List ℕ → List ℕ
room_drawn (Ok k) bytes room = bytes ++ drop (length bytes) room
room_drawn (Err w) bytes room = room

-- the room after reading a file
unfoldable pub drawn_room : List ℕ → List ℕ → List ℕ
drawn_room s room = room_drawn (drawn_answer s (length room)) (drawn_bytes s) room

-- what `equations` promises of its answer and of the room
pub record EquationsPromise (s room : List ℕ) (r : Drawn) (out : List ℕ) : Type 0 where
  pub answer : r ≡ drawn_answer s (length room)
  pub bytes : out ≡ drawn_room s room

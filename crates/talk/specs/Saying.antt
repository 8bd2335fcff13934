-- What the functions inside promise to one another: texts of what the structs hold, and where they stand.
use Rattle.std.specs.Prelude.{◌≡◌, Result, Ok, Err, cond, List, ◌++◌, ℕ, ◌+◌, ◌/◌, min, get_or, take}
use Rattle.io.specs.Counts.{IsPrefixLen}
use Rattle.circuit.specs.declared.Circuit.{Circuit}
use Rattle.circuit.specs.declared.Refusal.{Refusal}
use Rattle.circuit.specs.declared.Refusal.TheVariants.{NothingOpen}
use Rattle.circuit.specs.Sizes.{most_values}
use Rattle.circuit.specs.Gate.{no_words, value_in}
use Rattle.stored.specs.Writing.{Writing}
use Rattle.drawing.specs.Drawing.{Drawn, drawn_count, drawn_answer, drawn_bytes}
use Rattle.bench.specs.declared.Bench.{Bench}
use Rattle.bench.specs.declared.Report.{Report}
use Rattle.bench.specs.State.{Present}
use Rattle.bench.specs.Held.{Stands}
use Rattle.bench.specs.Calls.{store_answer, stored_of}
use Rattle.bench.specs.Parts.{open_on}
use Rattle.text.specs.Numbers.{labelled}
use Rattle.text.specs.Putting.{Put}
use Rattle.listing.specs.Printed.{new_line, refused_text, counts_text, lines_in, lines_to}
use Rattle.talk.specs.Words.{and_depth_name, held_name}
use Rattle.talk.specs.Texts.{verdict_text, hex_line, written_text, drawn_text, group_text, values_text}

-- a text was put first in a room, within it: `len` bytes, and past them the room is as it was
pub record Said (before after : List ℕ) (len : ℕ) (text : List ℕ) : Type 0 where
  pub counts : IsPrefixLen len after
  pub put : Put before 0 text after len

-- more than any stored form has
abbrev pub stored_most : ℕ
stored_most = 2048

-- what was written first in a room, or why nothing was
abbrev pub written_in : List ℕ → Writing → List ℕ → List ℕ
written_in name (Ok count) room = hex_line name count (take (min count stored_most) room)
written_in name (Err w) room = refused_text w

-- what was read of a file and stands first in a room, or why nothing was
abbrev pub drawn_in : Drawn → List ℕ → List ℕ
drawn_in d room = drawn_text d (take (min (drawn_count d) stored_most) room)

-- how many bytes hold a value for each input value there may be
abbrev pub packed_most : ℕ
packed_most = most_values / 8

-- the group of line i, as a bench holds it
abbrev pub group_in : Bench → ℕ → List ℕ
group_in b i =
    group_text i (get_or b.depths i 0) (get_or b.and_depths i 0) (values_text (value_in (get_or b.values i no_words)) b.n)

-- all that a bench holds
unfoldable pub lines_held_in : Bench → List ℕ
lines_held_in b = labelled held_name (b.n + b.g) ++ lines_to (group_in b) (b.n + b.g) ++ new_line

-- the same where anything stands on it
abbrev pub held_in : Bench → List ℕ
held_in b = cond (open_on b) (lines_held_in b) (refused_text NothingOpen)

-- a circuit with its report
unfoldable pub shown_with : Circuit → Report → List ℕ
shown_with c r =
    counts_text c.n c.m c.g r.depth ++ labelled and_depth_name r.and_depth ++ new_line ++ lines_in c ++ verdict_text r.verdict ++ new_line

-- the same where there is a report
abbrev pub shown_in : Circuit → Result Report Refusal → List ℕ
shown_in c (Ok r) = shown_with c r
shown_in c (Err w) = refused_text w

-- what a bench stored for a room so long stands first in a room, or the refusal is told
pub record StoresFirst (b : Bench) (size : ℕ) (r : Writing) (room : List ℕ) : Type 0 where
  pub said : (name : List ℕ) (p : Present) → Stands b p → written_in name r room ≡ written_text name (store_answer p size) (stored_of p)

-- bytes stand first in a room as an answer has it, or its refusal is told
pub record WrittenFirst (answer : Writing) (bytes : List ℕ) (r : Writing) (room : List ℕ) : Type 0 where
  pub said : (name : List ℕ) → written_in name r room ≡ written_text name answer bytes

-- what was read of a file for a room so long stands first in a room, or the refusal is told
pub record DrawsFirst (s : List ℕ) (size : ℕ) (r : Drawn) (room : List ℕ) : Type 0 where
  pub said : drawn_in r room ≡ drawn_text (drawn_answer s size) (drawn_bytes s)

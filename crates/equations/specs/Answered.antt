-- The answer to a file as text: the stored circuit of its equations in digits, or the refusal, with line and column where it has a place.
use Rattle.std.specs.Prelude.{Ok, Err, cond, List, [], ◌∷◌, ◌++◌, reverse, ℕ, suc, ◌+◌, min, eqb, ltb, length, take}
use Rattle.drawing.specs.declared.Refusal.TheVariants.{BadText, BadName, NoOutputs, NotStored}
use Rattle.drawing.specs.Drawing.{Drawn, drawn_count, drawn_answer, drawn_bytes}
use Rattle.text.specs.Places.{up_to}
use Rattle.text.specs.Numbers.{hex_text, labelled}
use Rattle.listing.specs.Printed.{new_line, unreadable_text, refused_name, refused_text, placed_text}

-- how many lines end in a text: how often it has LF
unfoldable pub ends_in : List ℕ → ℕ
ends_in [] = 0
ends_in (x ∷ xs) = cond (eqb x 10) (suc (ends_in xs)) (ends_in xs)

-- how many bytes follow the last LF of a text, or all of it where there is none
unfoldable pub since_end : List ℕ → ℕ
since_end s = up_to 10 (reverse s)

-- the line of a place, from 1: the lines that end before it, and its own
abbrev pub line_of : List ℕ → ℕ → ℕ
line_of s place = ends_in (take place s) + 1

-- the column of a place, from 1: the bytes before it in its line, and its own
abbrev pub column_of : List ℕ → ℕ → ℕ
column_of s place = since_end (take place s) + 1

-- ` line `
abbrev pub line_name : List ℕ
line_name = 32 ∷ 108 ∷ 105 ∷ 110 ∷ 101 ∷ 32 ∷ []

-- ` column `
abbrev pub column_name : List ℕ
column_name = 32 ∷ 99 ∷ 111 ∷ 108 ∷ 117 ∷ 109 ∷ 110 ∷ 32 ∷ []

-- `refused N PLACE line L column C`
unfoldable pub found_text : ℕ → ℕ → ℕ → ℕ → List ℕ
found_text number place line column = placed_text number place ++ labelled line_name line ++ labelled column_name column ++ new_line

-- what is written for a file by what is read of it, where the bytes are those of its stored circuit
abbrev pub drawn_line : List ℕ → Drawn → List ℕ → List ℕ
drawn_line s (Ok count) bytes = hex_text bytes ++ new_line
drawn_line s (Err (BadText place)) bytes = found_text 15 place (line_of s place) (column_of s place)
drawn_line s (Err (BadName place)) bytes = found_text 16 place (line_of s place) (column_of s place)
drawn_line s (Err NoOutputs) bytes = labelled refused_name 17 ++ new_line
drawn_line s (Err (NotStored w)) bytes = refused_text w

-- more than any stored form has
abbrev pub stored_most : ℕ
stored_most = 2048

-- the same where the bytes stand first in a room
abbrev pub line_in : List ℕ → Drawn → List ℕ → List ℕ
line_in s d room = drawn_line s d (take (min (drawn_count d) stored_most) room)

-- what is written for a file: one of more than 65,535 bytes is unreadable whatever it says; a room that any stored form fits into is lent
unfoldable pub answer_text : List ℕ → List ℕ
answer_text s = cond (ltb 65535 (length s)) unreadable_text (drawn_line s (drawn_answer s stored_most) (drawn_bytes s))

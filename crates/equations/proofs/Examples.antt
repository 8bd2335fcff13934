-- Places in a file and what is written of them, by computation. Assumes nothing.
use mathlib.Core.Path.{◌≡◌, refl}
use mathlib.Core.List.{List, [], ◌∷◌, map}
use Prim.Native.Nat.{ℕ}
use Rattle.text.specs.Places.{leading}
use Rattle.text.specs.Numbers.{dec_text}
use Rattle.equations.specs.Answered.{ends_in, since_end, line_of, column_of, found_text}

-- `a`, LF, LF, `bc`, LF
abbrev file : List ℕ
file = 97 ∷ 10 ∷ 10 ∷ 98 ∷ 99 ∷ 10 ∷ []

-- the line of each place, the file's end (6) too, and of one past it
pub lines : map (line_of file) (0 ∷ 1 ∷ 2 ∷ 3 ∷ 4 ∷ 5 ∷ 6 ∷ 7 ∷ []) ≡ 1 ∷ 1 ∷ 2 ∷ 3 ∷ 3 ∷ 3 ∷ 4 ∷ 4 ∷ []
unfolding ends_in
lines = refl

-- the columns: an LF stands after the last byte of its line
pub columns : map (column_of file) (0 ∷ 1 ∷ 2 ∷ 3 ∷ 4 ∷ 5 ∷ 6 ∷ 7 ∷ []) ≡ 1 ∷ 2 ∷ 1 ∷ 1 ∷ 2 ∷ 3 ∷ 1 ∷ 1 ∷ []
unfolding since_end leading
columns = refl

-- refused 15 37 line 3 column 9
pub found : found_text 15 37 3 9
    ≡ 114 ∷ 101 ∷ 102 ∷ 117 ∷ 115 ∷ 101 ∷ 100 ∷ 32 ∷ 49 ∷ 53 ∷ 32 ∷ 51 ∷ 55 ∷ 32 ∷ 108 ∷ 105 ∷ 110 ∷ 101 ∷ 32 ∷ 51 ∷ 32 ∷ 99 ∷ 111 ∷ 108 ∷ 117 ∷ 109 ∷ 110 ∷ 32 ∷ 57 ∷ 10 ∷ []
unfolding dec_text found_text
found = refl

-- The next word of a line, if one is left.
use Rattle.std.specs.Prelude.{List, ℕ, ◌<◌, max, length, Option, Some, None}
use Rattle.text.specs.declared.Word.{Word}
use Rattle.text.specs.Places.{NextWord}

-- what `next_word` answers: the first word from `at` on, which has a byte or more; where none is left, an empty one stands at the line's end, or
-- at `at` where that is past it
abbrev pub NextIs : List ℕ → ℕ → Option Word → Type 0
NextIs line at (Some w) = NextWord line at w.from w.to × (w.from < w.to)
NextIs line at None = NextWord line at (max at (length line)) (max at (length line))

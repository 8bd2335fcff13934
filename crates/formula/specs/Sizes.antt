-- How large an equation file may be.
use Rattle.std.specs.Prelude.{ℕ}

-- the most assignments, and so the most names that are set
abbrev pub most_names : ℕ
most_names = 512

-- the most bytes of a name
abbrev pub longest : ℕ
longest = 16

-- the most levels of brackets
abbrev pub nesting : ℕ
nesting = 32

-- How large a circuit may be ("Lines and gates"), and what a number is held in.
use Rattle.std.specs.Prelude.{ℕ, ◌+◌}

-- the most inputs
abbrev pub most_inputs : ℕ
most_inputs = 8

-- the most outputs
abbrev pub most_outputs : ℕ
most_outputs = 32

-- the most gates
abbrev pub most_gates : ℕ
most_gates = 248

-- the most lines: each input is one, and each gate
abbrev pub most_lines : ℕ
most_lines = most_inputs + most_gates

-- the most input values, 2 to the power of the most inputs: four words hold a bit for each, and a table an entry
abbrev pub most_values : ℕ
most_values = 256

-- a line number and a limit are held in 16 bits: each is below this
abbrev pub held16 : ℕ
held16 = 65536

-- a mask of inputs is held in at most 32 bits: no row has more inputs
abbrev pub mask_width : ℕ
mask_width = 32

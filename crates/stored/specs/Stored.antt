-- The stored form of a circuit ("Stored form"): what its bytes are, and what circuit some bytes hold.
use Rattle.std.specs.Prelude.{List, [], ◌∷◌, ◌++◌, ℕ, zero, suc, ◌+◌, ◌*◌, ◌%◌, length, get_or, drop}
use Rattle.circuit.specs.Lines.{Gate, Listing, gate, listing}

-- the marks of the records, two bytes each: of the shape,
abbrev pub SH : List ℕ
SH = 83 ∷ 72 ∷ []

-- of a gate,
abbrev pub GT : List ℕ
GT = 71 ∷ 84 ∷ []

-- and of an output
abbrev pub OP : List ℕ
OP = 79 ∷ 80 ∷ []

-- a number in one byte: its lowest eight bits, which are the number where it is below 256
abbrev pub in_byte : ℕ → ℕ
in_byte x = x % 256

-- a record for each gate: `GT` kind a b
unfoldable pub gate_bytes : List Gate → List ℕ
gate_bytes [] = []
gate_bytes (q ∷ qs) = GT ++ q.kind ∷ in_byte q.left ∷ in_byte q.right ∷ gate_bytes qs

-- a record for each output: `OP` line
unfoldable pub out_bytes : List ℕ → List ℕ
out_bytes [] = []
out_bytes (o ∷ os) = OP ++ in_byte o ∷ out_bytes os

-- a circuit's stored form: `SH` n m g, then the gates, then the outputs
abbrev pub stored : Listing → List ℕ
stored c = SH ++ c.inputs ∷ length c.outs ∷ length c.gates ∷ gate_bytes c.gates ++ out_bytes c.outs

-- byte k of the record at the front of what is left to read
abbrev pub field_of : ℕ → List ℕ → ℕ
field_of k s = get_or s k 0

-- the gate in a record of five bytes
abbrev pub gate_in : List ℕ → Gate
gate_in s = gate (get_or s 2 0) (get_or s 3 0) (get_or s 4 0)

-- the line in a record of three bytes
abbrev pub out_in : List ℕ → ℕ
out_in s = get_or s 2 0

-- what `count` records of `size` bytes each hold, one after the other
module _ {A : Type 0} (here : List ℕ → A) (size : ℕ) where
  unfoldable pub records : ℕ → List ℕ → List A
  records zero s = []
  records (suc count) s = here s ∷ records count (drop size s)

-- the circuit that some bytes hold
unfoldable pub listing_in : List ℕ → Listing
listing_in s =
    listing (get_or s 2 0) (records gate_in 5 (get_or s 4 0) (drop 5 s)) (records out_in 3 (get_or s 3 0) (drop (5 + 5 * get_or s 4 0) s))

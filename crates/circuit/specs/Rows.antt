-- Rows: which inputs are summed, and the constant that is added; and the row of each line of a circuit.
use Rattle.std.specs.Prelude.{List, [], ◌∷◌, ℕ, ◌^◌, length, get_or}
use Rattle.std.specs.Int.Bits.{bit_xor, differ}
use Rattle.circuit.specs.Sizes.{mask_width}
use Rattle.circuit.specs.Gate.{row_value_on}
use Rattle.circuit.specs.Lines.{Gate, Listing, gate_at, lines, upto, values}

-- a row: the mask of the inputs that it sums, and its constant, 0 or 1
pub record Row : Type 0 where
  pub mask : ℕ
  pub constant : ℕ

-- the row of a mask and a constant. Rows are made by it, and written out nowhere else.
abbrev pub row : ℕ → ℕ → Row
row m c = record { mask = m; constant = c }

-- a row where there is none
abbrev pub no_row : Row
no_row = row 0 0

-- a row on input value x: the inputs that its mask has are summed modulo 2, and its constant is added
unfoldable pub on_row : Row → ℕ → ℕ
on_row r x = differ (row_value_on mask_width r.mask x) r.constant

-- ---- which inputs each line sums

-- the sum of some masks: the inputs that an odd number of them has
unfoldable pub sum_of : List ℕ → ℕ
sum_of [] = 0
sum_of (x ∷ xs) = bit_xor x (sum_of xs)

-- a gate's line sums what the lines that it reads sum
abbrev pub mask_step : ℕ → Gate → List ℕ → ℕ
mask_step k q xs = sum_of xs

-- the masks of n inputs: input i is 2 ^ i
abbrev pub input_masks : ℕ → List ℕ
input_masks n = upto (λ (i : ℕ). 2 ^ i) n

-- the mask of each line, over n inputs and the first j gates: which inputs it sums
abbrev pub masks : ℕ → (ℕ → Gate) → ℕ → List ℕ
masks n gates = lines mask_step 0 (input_masks n) gates

-- the mask of each line of a circuit
abbrev pub masks_of : Listing → List ℕ
masks_of c = masks c.inputs (gate_at c) (length c.gates)

-- the row of line i of a circuit: its mask, and its value on input value 0
abbrev pub line_row : Listing → ℕ → Row
line_row c i = row (get_or (masks_of c) i 0) (get_or (values 0 c.inputs (gate_at c) (length c.gates)) i 0)

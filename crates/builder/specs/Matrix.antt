-- What it is for a program to compute a matrix: the words of the theorems. A row on an input is `row_value_on` of circuit.
use Rattle.std.specs.Prelude.{List, ℕ, ◌<◌, length, get_or}
use Rattle.circuit.specs.Lines.{Listing, gate_at, depth_step, lines}
use Rattle.distance.specs.Base.{Xor, inputs, arriving, Reads, Makes}

-- the gates are an XOR program over the n inputs that produces each row at depth D or less
pub record Computes (n : ℕ) (ts : List ℕ) (D : ℕ) (gs : List Xor) : Type 0 where
  pub reads : Reads (inputs n) gs
  pub makes : (i : ℕ) → i < length ts → Makes (inputs n) gs (get_or ts i 0) D

-- the gates are an XOR program over the n inputs at these arrivals that produces each row within its own limit
pub record ComputesLate (n : ℕ) (ar ts ds : List ℕ) (gs : List Xor) : Type 0 where
  pub reads : Reads (arriving n ar) gs
  pub makes : (i : ℕ) → i < length ts → Makes (arriving n ar) gs (get_or ts i 0) (get_or ds i 0)

-- the depth of output j of a circuit whose inputs have these arrivals, counted from them
abbrev pub depth_from : List ℕ → Listing → ℕ → ℕ
depth_from ar c j = get_or (lines depth_step 0 ar (gate_at c) (length c.gates)) (get_or c.outs j 0) 0

-- The circuit of a file: lines get the numbers that they have with as many inputs as there are.
use Rattle.std.specs.Prelude.{cond, List, ℕ, ◌+◌, ◌-◌, leb, ltb, get_or}
use Rattle.circuit.specs.declared.Circuit.{Circuit}
use Rattle.circuit.specs.Sizes.{most_inputs, most_outputs, most_gates}
use Rattle.circuit.specs.Lines.{upto}
use Rattle.sheet.specs.declared.Book.{Book}
use Rattle.drawing.specs.Outputs.{out_line, line_or0, top_of}

-- a line as if there were 8 inputs, where there are n
unfoldable pub shift_of : ℕ → ℕ → ℕ
shift_of n v = cond (ltb v most_inputs) v (v - (most_inputs - n))

-- how many outputs there are; one more than a circuit may have stands for any number above that
unfoldable pub few_outputs : ℕ → ℕ
few_outputs t = cond (leb t most_outputs) t (most_outputs + 1)

-- the circuit of a book whose names have these numbers: as many inputs as are read, the gates in the order in which they
-- were worked, and the outputs in the order of their numbers
unfoldable pub circuit_of : List ℕ → Book → Circuit
circuit_of numbers b =
    record {
      n = b.gates.high;
      m = few_outputs (top_of numbers b.names.n);
      g = b.gates.count;
      kinds = b.gates.kinds;
      left = upto (λ (k : ℕ). shift_of b.gates.high (get_or b.gates.left k 0)) most_gates;
      right = upto (λ (k : ℕ). shift_of b.gates.high (get_or b.gates.right k 0)) most_gates;
      outputs = upto (λ (j : ℕ). shift_of b.gates.high (line_or0 (out_line numbers b.names.lines b.names.n j))) most_outputs;
    }

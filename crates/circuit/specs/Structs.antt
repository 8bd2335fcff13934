-- How the code holds a circuit, and the circuit that a struct stands for.
use Rattle.std.specs.Prelude.{List, [], map, ℕ, suc, ◌%◌, max, length, get_or, set}
use Rattle.circuit.specs.declared.Circuit.{Circuit}
use Rattle.circuit.specs.Sizes.{most_outputs, most_gates, most_lines}
use Rattle.circuit.specs.Lines.{Gate, Listing, gate, listing, upto, padded}

-- a field of each gate in order, and zeros past the last
abbrev pub column : (Gate → ℕ) → List Gate → List ℕ
column f qs = padded most_gates 0 (map f qs)

-- how the code holds a circuit: a column of kinds, one of each operand, and the outputs, with zeros past the last
abbrev pub held : Listing → Circuit
held c =
    record {
      n = c.inputs;
      m = length c.outs;
      g = length c.gates;
      kinds = column (λ (q : Gate). q.kind) c.gates;
      left = column (λ (q : Gate). q.left) c.gates;
      right = column (λ (q : Gate). q.right) c.gates;
      outputs = padded most_outputs 0 c.outs;
    }

-- the struct that holds no circuit
abbrev pub no_circuit : Circuit
no_circuit = held (listing 0 [] [])

-- a struct with gate k set: one that it has, or one more where k is how many it has
abbrev pub put_gate : Circuit → ℕ → ℕ → ℕ → ℕ → Circuit
put_gate c k kind a b =
    record { n = c.n; m = c.m; g = max c.g (suc k); kinds = set c.kinds k kind; left = set c.left k a; right = set c.right k b; outputs = c.outputs }

-- a struct with other outputs
abbrev pub put_outputs : Circuit → List ℕ → Circuit
put_outputs c os = record { n = c.n; m = c.m; g = c.g; kinds = c.kinds; left = c.left; right = c.right; outputs = os }

-- a line number of a struct, as it is read: one of the lines there may be. On a circuit that is accepted it is the number itself
abbrev pub line_in : ℕ → ℕ
line_in x = x % most_lines

-- gate k of the circuit that a struct stands for
abbrev pub gate_of : Circuit → ℕ → Gate
gate_of c k = gate (get_or c.kinds k 0) (line_in (get_or c.left k 0)) (line_in (get_or c.right k 0))

-- the line that output k of a struct names
abbrev pub out_of : Circuit → ℕ → ℕ
out_of c k = line_in (get_or c.outputs k 0)

-- the circuit that a struct stands for
abbrev pub listed : Circuit → Listing
listed c = listing c.n (upto (gate_of c) c.g) (upto (out_of c) c.m)

-- The circuit of a book: its gates are those that were made, with as many inputs as were read, and it is refused for nothing.
use Rattle.std.specs.Prelude.{Option, Some}
use mathlib.Core.Path.{◌≡◌, refl, ap, ap₂, ◌∙◌}
use mathlib.Core.Bool.{Bool, true, false, cond}
use mathlib.Core.List.{List}
use Prim.Native.Nat.{ℕ, ◌+◌, ◌≤◌, ◌<◌, min}
use native.Mathlib.Omega.{arith}
use borrow.Author.Tests.{lt-ltb, leb-true, leb-false}
use lib.Dec.{leb}
use lib.ListN.{length, get_or}
use Rattle.circuit.specs.declared.Circuit.{Circuit}
use Rattle.circuit.specs.Rules.{done}
use Rattle.circuit.specs.Sizes.{most_inputs, most_outputs, most_gates}
use Rattle.circuit.specs.Lines.{Gate, gate, gate_at, upto, truth_step, inputs_on, values, output_on}
use Rattle.circuit.specs.Structs.{line_in, gate_of, out_of, listed}
use Rattle.circuit.specs.Rules.{gate_answer, out_answer, listing_answer}
use Rattle.circuit.proofs.LineLaws.{lines_agree}
use Rattle.circuit.proofs.Listed.{gate-listed, line_kept}
use Rattle.circuit.proofs.RuleLaws.{gate_fits, fits_circuit}
use Rattle.circuit.proofs.Shapes.{Shaped, shape_true}
use Rattle.circuit.proofs.Upto.{upto-length, upto_at}
use Rattle.sheet.specs.declared.Book.{Book}
use Rattle.drawing.specs.Outputs.{out_line, line_or0}
use Rattle.drawing.specs.Numbering.{shift_of, few_outputs, circuit_of}
use Rattle.drawing.specs.Drawing.{numbers_in, circuit_in}
use Rattle.meaning.proofs.Values.{Fit, numbered, shift_below, Sound}

-- ---- a struct

-- what an output gives, where f has the gates
pub listed_output : (c : Circuit) (f : ℕ → Gate) → ((k : ℕ) → k < c.g → gate_of c k ≡ f k) → (x j : ℕ) → j < c.m → output_on (listed c) x j ≡ get_or (values x c.n f c.g) (out_of c j) 0
listed_output c f e x j h =
    ap₂ (λ (g o : ℕ). get_or (values x c.n (gate_at (listed c)) g) o 0) (upto-length (gate_of c) c.g) (upto_at (out_of c) 0 c.m j h)
    ∙ ap (λ (l : List ℕ). get_or l (out_of c j) 0) (lines_agree truth_step 0 (inputs_on c.n x) f (gate_at (listed c)) c.g (λ k l. gate-listed c k l ∙ e k l))

out_done : (count line : ℕ) → line < count → out_answer count line ≡ done
unfolding out_answer
out_done count line h = rw (lt-ltb _ _ h)

-- a struct whose shape, gates and outputs are refused for nothing
pub listed_done : (c : Circuit) → Shaped c.n c.m c.g → ((k : ℕ) → k < c.g → gate_answer false (c.n + k) (gate_of c k) ≡ done) → ((j : ℕ) → j < c.m → out_of c j < c.n + c.g)
    → listing_answer false (listed c) ≡ done
listed_done c h gates outs =
    let g = upto-length (gate_of c) c.g in
    let m = upto-length (out_of c) c.m in
    let shape : Shaped c.n (length (upto (out_of c) c.m)) (length (upto (gate_of c) c.g)) = rw (m, g) h in
    fits_circuit false (listed c)
    (record {
      shape = shape;
      shaped-true = shape_true _ _ _ shape;
      gates = λ k l. ap (gate_answer false (c.n + k)) (gate-listed c k (omega (arith, g))) ∙ gates k (omega (arith, g));
      outs = λ j l. out_done _ _ (omega (arith, g, upto_at (out_of c) 0 c.m j (omega (arith, m)), outs j (omega (arith, m))));
    })

-- ---- the circuit of a book

-- how many outputs a struct is said to have: 33 stands for any number above 32
pub few-outputs : (t : ℕ) → few_outputs t ≡ min t (most_outputs + 1)
unfolding few_outputs
few-outputs t = by (leb t most_outputs) refl
  where
    by : (c : Bool) → leb t most_outputs ≡ c → cond c t (most_outputs + 1) ≡ min t (most_outputs + 1)
    by true e = omega (arith, leb-true t most_outputs e)
    by false e = omega (arith, leb-false t most_outputs e)

module _ (s : List ℕ) (b : Book) (few : b.gates.high ≤ most_inputs) (fits : b.gates.count ≤ most_gates) (sound : Sound b.gates.high few b.gates) where
  pub gate_is : (k : ℕ) → k < b.gates.count → gate_of (circuit_in s b) k ≡ numbered b.gates.high b.gates k
  unfolding circuit_of
  gate_is k h =
      let n = b.gates.high in
      let f = gate_fits false (n + k) (numbered n b.gates k) (sound k h) in
      let x = ap line_in (upto_at (λ (k : ℕ). shift_of n (get_or b.gates.left k 0)) 0 most_gates k (omega arith)) ∙ line_kept _ (omega (arith, f.first)) in
      let y = ap line_in (upto_at (λ (k : ℕ). shift_of n (get_or b.gates.right k 0)) 0 most_gates k (omega arith)) ∙ line_kept _ (omega (arith, f.second)) in
      λ j. gate (get_or b.gates.kinds k 0) (x j) (y j)

  module _ (j v : ℕ) (h : j < most_outputs) (e : out_line (numbers_in s b) b.names.lines b.names.n j ≡ Some v) (f : Fit b.gates v) where
    pub out_is : out_of (circuit_in s b) j ≡ shift_of b.gates.high v
    unfolding circuit_of
    out_is =
        let n = b.gates.high in
        ap line_in (upto_at (λ (j : ℕ). shift_of n (line_or0 (out_line (numbers_in s b) b.names.lines b.names.n j))) 0 most_outputs j h ∙ ap (λ (f : Option ℕ). shift_of n (line_or0 f)) e)
        ∙ line_kept _ (omega (arith, shift_below n few b.gates v (omega arith) f))

    pub out_there : out_of (circuit_in s b) j < b.gates.high + b.gates.count
    out_there = omega (arith, out_is, shift_below b.gates.high few b.gates v (omega arith) f)

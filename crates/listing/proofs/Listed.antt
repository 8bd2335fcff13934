-- The lines of a circuit's gates and outputs, one after the other: as the loops put them, and as the circuit has them; the whole listing. Assumes nothing.
use mathlib.Core.Path.{◌≡◌, refl, ap, ap₂, ◌∙◌, sym}
use mathlib.Core.Bool.{Bool, true, false, cond}
use mathlib.Core.List.{List, [], ◌++◌}
use Prim.Native.Nat.{ℕ, zero, suc, ◌+◌, ◌<◌}
use native.Mathlib.Omega.{arith}
use native.Mathlib.Numerals.{add-one}
use lib.ListN.{get_or}
use Rattle.circuit.specs.declared.Circuit.{Circuit}
use Rattle.circuit.specs.Lines.{upto, gate_at, depth_of}
use Rattle.circuit.specs.Structs.{gate_of, out_of, listed}
use Rattle.circuit.specs.Rules.{shaped}
use Rattle.circuit.specs.Depth.{depth_in}
use Rattle.circuit.proofs.Upto.{upto-length, upto_at}
use Rattle.circuit.proofs.Listed.{gate-listed}
use Rattle.listing.specs.Printed.{gate_line, output_line, lines_to, gates_text, outputs_text, lines_text, counts_text, new_line, listing_text, lines_in}

-- one line more
pub lines_next : (f : ℕ → List ℕ) (j : ℕ) → lines_to f j ++ f j ≡ lines_to f (j + 1)
unfolding lines_to
lines_next f j = rw (add-one j)

-- lines that are the same one by one are the same together
pub lines_same : (f h : ℕ → List ℕ) (j : ℕ) → ((k : ℕ) → k < j → f k ≡ h k) → lines_to f j ≡ lines_to h j
unfolding lines_to
lines_same f h zero e = refl
lines_same f h (suc j) e = ap₂ (λ (a b : List ℕ). a ++ b) (lines_same f h j (λ k l. e k (omega arith))) (e j (omega arith))

module _ (c : Circuit) where
  -- the gates' lines from the struct's arrays are the circuit's
  pub gates_listed : lines_to (λ (k : ℕ). gate_line c.n k (gate_of c k)) c.g ≡ gates_text (listed c)
  gates_listed =
      lines_same _ (λ (k : ℕ). gate_line c.n k (gate_at (listed c) k)) c.g (λ k h. ap (gate_line c.n k) (sym (gate-listed c k h)))
      ∙ ap (lines_to (λ (k : ℕ). gate_line c.n k (gate_at (listed c) k))) (sym (upto-length (gate_of c) c.g))

  -- the outputs' lines likewise
  pub outputs_listed : lines_to (λ (j : ℕ). output_line c.n j (out_of c j)) c.m ≡ outputs_text (listed c)
  outputs_listed =
      let outs = upto (out_of c) c.m in
      lines_same _ (λ (j : ℕ). output_line c.n j (get_or outs j 0)) c.m (λ j h. ap (output_line c.n j) (sym (upto_at (out_of c) 0 c.m j h)))
      ∙ ap (lines_to (λ (j : ℕ). output_line c.n j (get_or outs j 0))) (sym (upto-length (out_of c) c.m))

-- the lines of a struct in range
pub all_lines : (c : Circuit) → shaped c.n c.m c.g ≡ true
    → lines_to (λ (k : ℕ). gate_line c.n k (gate_of c k)) c.g ++ lines_to (λ (j : ℕ). output_line c.n j (out_of c j)) c.m ≡ lines_in c
unfolding lines_in
all_lines c e = (λ i. gates_listed c i ++ outputs_listed c i) ∙ sym (ap (λ (t : Bool). cond t (lines_text (listed c)) []) e)

-- a struct out of range
pub no_lines : (c : Circuit) → shaped c.n c.m c.g ≡ false → [] ≡ lines_in c
unfolding lines_in
no_lines c e = sym (ap (λ (t : Bool). cond t (lines_text (listed c)) []) e)

-- the counts, the end of the line and the lines of a struct in range are the text of the circuit that it stands for
pub listing_of : (c : Circuit) → shaped c.n c.m c.g ≡ true
    → counts_text c.n c.m c.g (depth_in c) ++ new_line ++ lines_in c ≡ listing_text (listed c)
unfolding lines_in depth_in
listing_of c e =
    let m = sym (upto-length (out_of c) c.m) in
    let g = sym (upto-length (gate_of c) c.g) in
    λ i. counts_text c.n (m i) (g i) (cond (e i) (depth_of (listed c)) 0) ++ new_line ++ cond (e i) (lines_text (listed c)) []

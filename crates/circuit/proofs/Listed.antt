-- A struct made from a circuit stands for that circuit, gate by gate. Assumes nothing.
use mathlib.Core.Path.{◌≡◌, refl, ap, ◌∙◌, sym}
use mathlib.Core.List.{List, [], ◌∷◌, ◌++◌, map}
use Prim.Native.Nat.{ℕ, suc, ◌<◌, ◌≤◌, ◌-◌, ◌+◌, max}
use mathlib.Core.Bool.{Bool}
use mathlib.Core.Logic.{⊎_elim}
use native.Mathlib.Nat.{mod-eq_of_lt}
use native.Mathlib.Omega.{arith}
use lib.ListN.{length, get_or, set, length-append, length-map, get_or-map, get_or-eq_default}
use Rattle.circuit.specs.declared.Circuit.{Circuit}
use Rattle.circuit.specs.Sizes.{most_outputs, most_gates, most_lines}
use Rattle.circuit.specs.Lines.{Gate, Listing, gate, no_gate, listing, gate_at, with_more, padded}
use Rattle.circuit.specs.Structs.{column, line_in, held, put_gate, gate_of, out_of, listed}
use Rattle.circuit.specs.Rules.{done, listing_answer}
use Rattle.circuit.proofs.RuleLaws.{gate_fits, out_below, CircuitFits, circuit_fits}
use Rattle.circuit.proofs.LineLaws.{place}
use Rattle.circuit.proofs.Padding.{pad_read, padded-put}
use Rattle.circuit.proofs.Upto.{upto_same, upto_all, upto_at, map_snoc}

-- gate k of the circuit that a struct stands for
pub gate-listed : (c : Circuit) (k : ℕ) → k < c.g → gate_at (listed c) k ≡ gate_of c k
gate-listed c k h = upto_at (gate_of c) no_gate c.g k h

-- an entry of a column is the gate's field; past the last gate it is that of no gate
pub column_read : (f : Gate → ℕ) → f no_gate ≡ 0 → (qs : List Gate) (k : ℕ) → get_or (column f qs) k 0 ≡ f (get_or qs k no_gate)
column_read f e qs k = pad_read (map f qs) (most_gates - length (map f qs)) k 0 ∙ ap (get_or (map f qs) k) (sym e) ∙ get_or-map f qs k no_gate

-- one gate more is stored in a column,
pub column-put : (f : Gate → ℕ) (qs : List Gate) (q : Gate) → length qs < most_gates → set (column f qs) (length qs) (f q) ≡ column f (qs ++ (q ∷ []))
column-put f qs q h = padded-put most_gates 0 (map f qs) (length qs) (f q) (sym (length-map qs f)) h ∙ ap (padded most_gates 0) (sym (map_snoc f qs q))

-- and in a struct
pub held_more : (c : Listing) (q : Gate) → length c.gates < most_gates
    → put_gate (held c) (length c.gates) q.kind q.left q.right ≡ held (with_more c q)
held_more c q h =
    let qs = c.gates in
    let k = column-put (λ (p : Gate). p.kind) qs q h in
    let a = column-put (λ (p : Gate). p.left) qs q h in
    let b = column-put (λ (p : Gate). p.right) qs q h in
    let g : max (length qs) (suc (length qs)) ≡ length (qs ++ (q ∷ [])) = omega (arith, length-append qs (q ∷ [])) in
    λ i. record { n = c.inputs; m = length c.outs; g = g i; kinds = k i; left = a i; right = b i; outputs = padded most_outputs 0 c.outs }

-- a line number below the most is read as it is
pub line_kept : (x : ℕ) → x < most_lines → line_in x ≡ x
line_kept x h = mod-eq_of_lt h

-- the line numbers of an accepted circuit's gates are among the lines there may be; where there is no gate they are 0
lines_among : (only : Bool) (c : Listing) → CircuitFits only c → (k : ℕ) → ((gate_at c k).left < most_lines) × ((gate_at c k).right < most_lines)
lines_among only c f k = ⊎_elim there (λ m. gone (⊎_elim (λ e. omega arith) (λ l. omega arith) m)) (place k (length c.gates)) where
  there : k < length c.gates → ((gate_at c k).left < most_lines) × ((gate_at c k).right < most_lines)
  there h = let q = gate_fits only (c.inputs + k) (gate_at c k) (f.gates k h) in (omega (arith, q.first, f.shape), omega (arith, q.second, f.shape))

  gone : length c.gates ≤ k → ((gate_at c k).left < most_lines) × ((gate_at c k).right < most_lines)
  gone h =
      let e : gate_at c k ≡ no_gate = get_or-eq_default c.gates no_gate h in
      (omega (arith, ap (λ (q : Gate). q.left) e), omega (arith, ap (λ (q : Gate). q.right) e))

-- so its struct has the same gates
pub gate-held : (only : Bool) (c : Listing) → CircuitFits only c → (k : ℕ) → gate_of (held c) k ≡ gate_at c k
gate-held only c f k =
    let qs = c.gates in
    let o = lines_among only c f k in
    let x = ap line_in (column_read (λ (q : Gate). q.left) refl qs k) ∙ line_kept _ o.0 in
    let y = ap line_in (column_read (λ (q : Gate). q.right) refl qs k) ∙ line_kept _ o.1 in
    λ i. gate (column_read (λ (q : Gate). q.kind) refl qs k i) (x i) (y i)

-- and stands for it
pub listed-held : (only : Bool) (c : Listing) → listing_answer only c ≡ done → listed (held c) ≡ c
listed-held only c h =
    let f = circuit_fits only c h in
    let g = upto_same (gate_of (held c)) (gate_at c) (length c.gates) (λ k l. gate-held only c f k) ∙ upto_all c.gates no_gate in
    let o = upto_same (out_of (held c)) (λ (k : ℕ). get_or c.outs k 0) (length c.outs) (λ k l.
    ap line_in (pad_read c.outs (most_outputs - length c.outs) k 0)
    ∙ line_kept _ (omega (arith, out_below (c.inputs + length c.gates) (get_or c.outs k 0) (f.outs k l), f.shape))) ∙ upto_all c.outs 0 in
    λ i. listing c.inputs (g i) (o i)

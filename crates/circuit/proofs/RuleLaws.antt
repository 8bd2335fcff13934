-- What an accepted gate, output and circuit shows; all of them, and one by one. Assumes nothing.
use mathlib.Core.Path.{◌≡◌, refl, ap, ap₂, ◌∙◌, sym, subst}
use mathlib.Core.Bool.{Bool, true, false, ◌&&◌, and-true}
use mathlib.Core.List.{List, [], ◌∷◌}
use Prim.Native.Nat.{ℕ, zero, suc, ◌≤◌, ◌<◌, ◌+◌}
use native.Mathlib.Omega.{arith}
use lib.Dec.{leb, ltb, eqb}
use lib.ListN.{length, get_or}
use borrow.Author.Tests.{leb-true, ltb-true, eqb-true, lt-ltb}
use Rattle.circuit.specs.declared.Refusal.TheVariants.{Shape, UnknownKind, Operand, NotLinear, NoLine}
use Rattle.circuit.specs.Lines.{Gate, Listing, no_gate}
use Rattle.circuit.specs.Gate.{kind_of, nonlinear, allowed}
use Rattle.circuit.specs.Rules.{done, unless, and_then, shaped, all_of, operands_fit, gate_answer, out_answer, gates_answer, outs_answer, listing_answer}
use Rattle.circuit.proofs.GateLaws.{allowed_linear}
use Rattle.circuit.proofs.Operands.{reads_two, reads_one, unread_two, unread_one, by_operands}
use Rattle.circuit.proofs.Shapes.{Shaped, shape_is, past, both, then_done}

-- ---- one gate that is accepted

-- the operands of a gate of two
pub two_fit : (line : ℕ) (q : Gate) → q.kind ≤ 5 → operands_fit line q ≡ (ltb q.left line && ltb q.right line)
unfolding operands_fit all_of
two_fit line q h =
    ap₂ (λ (rs us : List ℕ). all_of (λ (x : ℕ). ltb x line) rs && all_of (λ (x : ℕ). eqb x 0) us) (reads_two q h) (unread_two q h)
    ∙ and-true (ltb q.left line && (ltb q.right line && true)) ∙ ap (λ (t : Bool). ltb q.left line && t) (and-true (ltb q.right line))

-- those of NOT: the second is stored as 0
pub one_fits : (line : ℕ) (q : Gate) → 6 ≤ q.kind → operands_fit line q ≡ (ltb q.left line && eqb q.right 0)
unfolding operands_fit all_of
one_fits line q h =
    ap₂ (λ (rs us : List ℕ). all_of (λ (x : ℕ). ltb x line) rs && all_of (λ (x : ℕ). eqb x 0) us) (reads_one q h) (unread_one q h)
    ∙ ap₂ ◌&&◌ (and-true (ltb q.left line)) (and-true (eqb q.right 0))

-- a first operand that is not below the line is refused, whatever the kind
pub none_fit : (line : ℕ) (q : Gate) → ltb q.left line ≡ false → operands_fit line q ≡ false
none_fit line q e =
    by_operands (λ (q : Gate). ltb q.left line ≡ false → operands_fit line q ≡ false) q
    (λ h e. two_fit line q h ∙ ap (λ (t : Bool). t && ltb q.right line) e) (λ h e. one_fits line q h ∙ ap (λ (t : Bool). t && eqb q.right 0) e) e

-- what an accepted gate shows: both operands, as stored, are below its line
pub record GateFits (only : Bool) (line : ℕ) (q : Gate) : Type 0 where
  pub known : q.kind ≤ 6
  pub first : q.left < line
  pub second : q.right < line
  pub linear : only ≡ true → nonlinear (kind_of q.kind) ≡ 0

-- both operands of an accepted gate are below its line
operands_below : (line : ℕ) (q : Gate) → operands_fit line q ≡ true → (q.left < line) × (q.right < line)
operands_below line q e =
    by_operands (λ (q : Gate). operands_fit line q ≡ true → (q.left < line) × (q.right < line)) q
    (λ h e. let b = both (ltb q.left line) (sym (two_fit line q h) ∙ e) in (ltb-true q.left line b.0, ltb-true q.right line b.1))
    (λ h e. let b = both (ltb q.left line) (sym (one_fits line q h) ∙ e) in
    let l = ltb-true q.left line b.0 in
    (l, omega (arith, eqb-true q.right 0 b.1))) e

pub gate_fits : (only : Bool) (line : ℕ) (q : Gate) → gate_answer only line q ≡ done → GateFits only line q
unfolding gate_answer
gate_fits only line q h =
    let p = past (leb q.kind 6) UnknownKind h in
    let o = past (operands_fit line q) Operand p.1 in
    let r = past (allowed only (kind_of q.kind)) NotLinear o.1 in
    let b = operands_below line q o.0 in
    record { known = leb-true q.kind 6 p.0; first = b.0; second = b.1; linear = allowed_linear only (kind_of q.kind) r.0 }

-- ---- gates and outputs one by one, and all of them

abbrev pub GatesDone : Bool → ℕ → List Gate → Type 0
GatesDone only line qs = (j : ℕ) → j < length qs → gate_answer only (line + j) (get_or qs j no_gate) ≡ done

pub gates_each : (only : Bool) (line : ℕ) (qs : List Gate) → gates_answer only line qs ≡ done → GatesDone only line qs
unfolding gates_answer
gates_each only line [] h j l = absurd (omega arith)
gates_each only line (q ∷ qs) h zero l =
    let e : line + 0 ≡ line = omega arith in
    rw e (then_done (gate_answer only line q) (gates_answer only (suc line) qs) h).0
gates_each only line (q ∷ qs) h (suc j) l =
    let e : line + suc j ≡ suc line + j = omega arith in
    let r = gates_each only (suc line) qs (then_done (gate_answer only line q) (gates_answer only (suc line) qs) h).1 j (omega arith) in
    rw e r

pub gates_all : (only : Bool) (line : ℕ) (qs : List Gate) → GatesDone only line qs → gates_answer only line qs ≡ done
unfolding gates_answer
gates_all only line [] h = refl
gates_all only line (q ∷ qs) h =
    let e : line + 0 ≡ line = omega arith in
    let a : gate_answer only line q ≡ done = subst (λ (x : ℕ). gate_answer only x q ≡ done) e (h 0 (omega arith)) in
    let r = gates_all only (suc line) qs (λ j l. let k = get_or qs j no_gate in let f : line + suc j ≡ suc line + j = omega arith in
    subst (λ (x : ℕ). gate_answer only x k ≡ done) f (h (suc j) (omega arith))) in
    ap₂ and_then a r

abbrev pub OutsDone : ℕ → List ℕ → Type 0
OutsDone count os = (j : ℕ) → j < length os → out_answer count (get_or os j 0) ≡ done

pub outs_each : (count : ℕ) (os : List ℕ) → outs_answer count os ≡ done → OutsDone count os
unfolding outs_answer
outs_each count [] h j l = absurd (omega arith)
outs_each count (o ∷ os) h zero l = (then_done (out_answer count o) (outs_answer count os) h).0
outs_each count (o ∷ os) h (suc j) l = outs_each count os (then_done (out_answer count o) (outs_answer count os) h).1 j (omega arith)

pub outs_all : (count : ℕ) (os : List ℕ) → OutsDone count os → outs_answer count os ≡ done
unfolding outs_answer
outs_all count [] h = refl
outs_all count (o ∷ os) h = ap₂ and_then (h 0 (omega arith)) (outs_all count os (λ j l. h (suc j) (omega arith)))

pub out_below : (count line : ℕ) → out_answer count line ≡ done → line < count
unfolding out_answer
out_below count line h = ltb-true line count (past (ltb line count) NoLine h).0

pub out_there : (count line : ℕ) → line < count → out_answer count line ≡ done
unfolding out_answer
out_there count line h = ap (λ (t : Bool). unless t NoLine done) (lt-ltb line count h)

-- ---- a circuit that is accepted

pub record CircuitFits (only : Bool) (c : Listing) : Type 0 where
  pub shape : Shaped c.inputs (length c.outs) (length c.gates)
  pub shaped-true : shaped c.inputs (length c.outs) (length c.gates) ≡ true
  pub gates : GatesDone only c.inputs c.gates
  pub outs : OutsDone (c.inputs + length c.gates) c.outs

pub circuit_fits : (only : Bool) (c : Listing) → listing_answer only c ≡ done → CircuitFits only c
unfolding listing_answer
circuit_fits only c h =
    let p = past (shaped c.inputs (length c.outs) (length c.gates)) Shape h in
    let q = then_done (gates_answer only c.inputs c.gates) (outs_answer (c.inputs + length c.gates) c.outs) p.1 in
    record {
      shape = shape_is _ _ _ p.0;
      shaped-true = p.0;
      gates = gates_each only c.inputs c.gates q.0;
      outs = outs_each (c.inputs + length c.gates) c.outs q.1;
    }

pub fits_circuit : (only : Bool) (c : Listing) → CircuitFits only c → listing_answer only c ≡ done
unfolding listing_answer
fits_circuit only c f =
    let g = gates_all only c.inputs c.gates f.gates in
    let o = outs_all (c.inputs + length c.gates) c.outs f.outs in
    λ i. unless (f.shaped-true i) Shape (and_then (g i) (o i))

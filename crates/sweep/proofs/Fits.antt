-- The gates of an accepted circuit read lines below their own, and a gate with other lines is accepted. Assumes nothing.
use Rattle.circuit.specs.Rules.{done}
use mathlib.Core.Path.{◌≡◌, ap, ap₂, ◌∙◌, sym}
use mathlib.Core.Bool.{Bool, true, ◌&&◌}
use Prim.Native.Nat.{ℕ, ◌<◌, ◌+◌}
use lib.Dec.{leb, ltb, eqb}
use borrow.Author.Tests.{lt-ltb, eqb-true}
use Rattle.circuit.specs.declared.Refusal.TheVariants.{UnknownKind, Operand}
use Rattle.circuit.specs.Lines.{Gate, Listing, gate, gate_at}
use Rattle.circuit.specs.Rules.{unless, operands_fit, gate_answer}
use Rattle.circuit.proofs.Operands.{by_operands, reads_below}
use Rattle.circuit.proofs.RuleLaws.{gate_fits, two_fit, one_fits, CircuitFits}
use Rattle.circuit.proofs.Shapes.{past, both}
use Rattle.sweep.specs.Sweep.{renamed}
use Rattle.sweep.proofs.SameLaws.{AllBelow, renamed_two, renamed_one}

-- each gate of an accepted circuit reads lines below its own
pub fits_below : (only : Bool) (c : Listing) → CircuitFits only c → AllBelow c.inputs c.gates
fits_below only c f j h =
    let q = gate_fits only (c.inputs + j) (gate_at c j) (f.gates j h) in
    (reads_below (c.inputs + j) (gate_at c j) q.first q.second).0

-- new lines that are all below m are operands on line m
renamed_fit : (f : ℕ → ℕ) (m : ℕ) → ((i : ℕ) → f i < m) → (q : Gate) → operands_fit m (renamed f q) ≡ true
renamed_fit f m low q =
    by_operands (λ (q : Gate). operands_fit m (renamed f q) ≡ true) q
    (λ h. ap (operands_fit m) (renamed_two f q h) ∙ two_fit m (gate q.kind (f q.left) (f q.right)) h
    ∙ ap₂ ◌&&◌ (lt-ltb (f q.left) m (low q.left)) (lt-ltb (f q.right) m (low q.right)))
    (λ h. ap (operands_fit m) (renamed_one f q h) ∙ one_fits m (gate q.kind (f q.left) 0) h
    ∙ ap (λ (t : Bool). t && eqb 0 0) (lt-ltb (f q.left) m (low q.left)))

-- so a gate that was accepted is accepted there with its new lines
pub renamed_fits : (f : ℕ → ℕ) (m : ℕ) → ((i : ℕ) → f i < m) → (only : Bool) (line : ℕ) (q : Gate) → gate_answer only line q ≡ done
    → gate_answer only m (renamed f q) ≡ done
unfolding gate_answer renamed
renamed_fits f m low only line q h =
    let p = past (leb q.kind 6) UnknownKind h in
    let o = past (operands_fit line q) Operand p.1 in
    let r = renamed_fit f m low q in
    λ i. unless (p.0 i) UnknownKind (unless (r i) Operand (o.1 i))

-- lines that stay give the gate as it was, since NOT has a second operand of 0
pub renamed_same : (f : ℕ → ℕ) (only : Bool) (line : ℕ) (q : Gate) → ((i : ℕ) → i < line → f i ≡ i) → gate_answer only line q ≡ done → renamed f q ≡ q
unfolding gate_answer
renamed_same f only line q e h =
    let w = gate_fits only line q h in
    let fit = (past (operands_fit line q) Operand (past (leb q.kind 6) UnknownKind h).1).0 in
    let a = e q.left w.first in
    let b = e q.right w.second in
    by_operands (λ (q : Gate). f q.left ≡ q.left → f q.right ≡ q.right → operands_fit line q ≡ true → renamed f q ≡ q) q
    (λ k a b fit. renamed_two f q k ∙ (λ i. gate q.kind (a i) (b i)))
    (λ k a b fit. let z = eqb-true q.right 0 (both (ltb q.left line) (sym (one_fits line q k) ∙ fit)).1 in
    renamed_one f q k ∙ (λ i. gate q.kind (a i) (sym z i))) a b fit

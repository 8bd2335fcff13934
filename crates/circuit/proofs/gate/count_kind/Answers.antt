-- `circuit::gate::count_kind` meets its contract: each range of kinds counts in one place. Assumes nothing.
use mathlib.Core.Path.{◌≡◌, refl, sym}
use native.Mathlib.Omega.{arith}
use native.Mathlib.Nat.{add-zero}
use Prim.Native.Nat.{ℕ, ◌+◌}
use Rattle.circuit.specs.declared.Tally.{Tally}
use Rattle.circuit.specs.Gate.{Kind, xor_type, nonlinear, inverter, tallied}
use Rattle.circuit.proofs.GateLaws.{CountsAs, low_xor, middle-nonlinear, high_counts}
use Rattle.circuit.proofs.gate.count_kind.Goals as goal

-- the counts with one of a kind that counts so
counts : (t : Tally) (k : Kind) (x n i : ℕ) → CountsAs k x n i → (u : Tally) → u.xors ≡ t.xors + x → u.nonlinear ≡ t.nonlinear + n → u.nots ≡ t.nots + i
    → u ≡ tallied t k
counts t k x n i s u p q r =
    let a : u.xors ≡ t.xors + xor_type k = omega (arith, s.xors, p) in
    let b : u.nonlinear ≡ t.nonlinear + nonlinear k = omega (arith, s.nonlinears, q) in
    let c : u.nots ≡ t.nots + inverter k = omega (arith, s.nots, r) in
    λ j. record { xors = a j; nonlinear = b j; nots = c j }

pub returns-in-0-to-1 : goal.returns-in-0-to-1
returns-in-0-to-1 c = let a = c.args in
    counts a.t _ 1 0 0 (low_xor a.kind (omega arith)) _ refl (sym (add-zero _)) (sym (add-zero _))

pub returns-in-2-to-5 : goal.returns-in-2-to-5
returns-in-2-to-5 c = let a = c.args in
    counts a.t _ 0 1 0 (middle-nonlinear a.kind (omega arith) (omega arith)) _ (sym (add-zero _)) refl (sym (add-zero _))

pub returns-in_default : goal.returns-in_default
returns-in_default c = let a = c.args in
    counts a.t _ 0 0 1 (high_counts a.kind (omega arith)) _ (sym (add-zero _)) (sym (add-zero _)) refl

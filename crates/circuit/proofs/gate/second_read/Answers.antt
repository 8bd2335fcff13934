-- `circuit::gate::second_read` meets its contract. Assumes nothing.
use mathlib.Core.Path.{sym, ap}
use mathlib.Core.List.{List}
use Prim.Native.Nat.{ℕ}
use native.Mathlib.Omega.{arith}
use lib.ListN.{get_or}
use Rattle.circuit.specs.Lines.{gate}
use Rattle.circuit.proofs.Operands.{reads_two, reads_one}
use Rattle.circuit.proofs.gate.second_read.Goals as goal

pub returns-in-0-to-5 : goal.returns-in-0-to-5
returns-in-0-to-5 c = let a = c.args in
    sym (ap (λ (rs : List ℕ). get_or rs 1 a.left) (reads_two (gate a.kind a.left a.right) (omega arith)))

pub returns-in_default : goal.returns-in_default
returns-in_default c = let a = c.args in
    sym (ap (λ (rs : List ℕ). get_or rs 1 a.left) (reads_one (gate a.kind a.left a.right) (omega arith)))

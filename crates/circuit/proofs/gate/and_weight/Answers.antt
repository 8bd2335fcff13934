-- `circuit::gate::and_weight` meets its contract. Assumes nothing.
use mathlib.Core.Path.{sym, ap}
use native.Mathlib.Omega.{arith}
use Rattle.circuit.specs.Gate.{nonlinear}
use Rattle.circuit.proofs.GateLaws.{low_xor, middle-nonlinear, high_not}
use Rattle.circuit.proofs.gate.and_weight.Goals as goal

pub returns-in-2-to-5 : goal.returns-in-2-to-5
returns-in-2-to-5 c = sym (middle-nonlinear c.args.kind (omega arith) (omega arith)).nonlinears

pub returns-in_default : goal.returns-in_default
returns-in_default c = sym (low_xor c.args.kind (omega arith)).nonlinears

pub returns-in_default-2 : goal.returns-in_default-2
returns-in_default-2 c = sym (ap nonlinear (high_not c.args.kind (omega arith)))

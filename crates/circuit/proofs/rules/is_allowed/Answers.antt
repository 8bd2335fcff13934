-- `circuit::rules::is_allowed` meets its contract: a linear kind may stand anywhere. Assumes nothing.
use mathlib.Core.Path.{sym}
use native.Mathlib.Omega.{arith}
use Rattle.circuit.specs.Gate.{kind_of}
use Rattle.circuit.proofs.GateLaws.{low_xor, middle-nonlinear, high_counts, linear_allowed, nonlinear-allowed}
use Rattle.circuit.proofs.rules.is_allowed.Goals as goal

pub returns-in-0-to-1 : goal.returns-in-0-to-1
returns-in-0-to-1 c = let a = c.args in sym (linear_allowed a.only (kind_of a.kind) (low_xor a.kind (omega arith)).nonlinears)

pub returns-in-2-to-5 : goal.returns-in-2-to-5
returns-in-2-to-5 c = let a = c.args in sym (nonlinear-allowed a.only (kind_of a.kind) (middle-nonlinear a.kind (omega arith) (omega arith)).nonlinears)

pub returns-in_default : goal.returns-in_default
returns-in_default c = let a = c.args in sym (linear_allowed a.only (kind_of a.kind) (high_counts a.kind (omega arith)).nonlinears)

-- `hint::read_sum` meets its contract. Assumes nothing.
use native.Mathlib.Omega.{arith}
use Rattle.hint.proofs.Summing.{sum_two, sum_one}
use Rattle.hint.proofs.read_sum.Goals as goal

pub returns-in-0-to-5 : goal.returns-in-0-to-5
returns-in-0-to-5 c = let a = c.args in sum_two a.kind a.a a.b (omega arith)

pub returns-in_default : goal.returns-in_default
returns-in_default c = let a = c.args in sum_one a.kind a.a a.b (omega arith)

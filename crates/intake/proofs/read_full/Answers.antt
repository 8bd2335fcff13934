-- `read_full`: what a read adds stays within the room, so a wrong count fails here, at a number. Assumes nothing.
use Rattle.std.specs.Prelude.{List, ℕ, ◌≤◌, length, Result, Ok, Err}
use Rattle.std.proofs.Common.{arith}
use Rattle.std.specs.Result.{IfOk, result_unwrap_or}
use Rattle.io.specs.Counts.{IsPrefixLen}
use Rattle.intake.proofs.read_full.Goals as goal

-- how many bytes came, none where the read failed
fits : {E : Type 0} (r : Result ℕ E) (buf : List ℕ) → IfOk r (λ n. IsPrefixLen n buf) → result_unwrap_or r 0 ≤ length buf
fits (Ok n) buf h = h.0
fits (Err e) buf h = omega arith

pub loop-count-preserved : goal.loop-count-preserved
loop-count-preserved g c = omega (arith, fits c.read.result c.read.new.buf c.read.ensures.bound, c.read.auto.buf, c.unwrap_or-got.ensures)

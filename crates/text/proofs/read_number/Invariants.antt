use Rattle.std.proofs.Common.{◌≡◌, ◌<◌, ◌^◌, drop}
use Rattle.text.specs.Numbers.{num_from}
use Rattle.text.proofs.read_number.Given as goal

abbrev pub invariant-loop-x : goal.invariant-loop-x
invariant-loop-x l = record { fits : l.acc < 2 ^ 64; left : num_from l.acc (drop l.x-index l.s) ≡ num_from 0 l.s }

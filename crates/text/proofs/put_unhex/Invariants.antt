use Rattle.std.proofs.Common.{◌≡◌}
use lib.Seq.{paste}
use Rattle.text.specs.Numbers.{hex_bytes}
use Rattle.text.proofs.put_unhex.Given as goal

abbrev pub invariant-loop-i : goal.invariant-loop-i
invariant-loop-i l = l.room ≡ paste l.initial.room l.at (hex_bytes l.digits) l.i

use mathlib.Core.Path.{◌≡◌}
use Prim.Native.Nat.{◌≤◌}
use lib.ListN.{take}
use Rattle.equations.specs.Answered.{ends_in, since_end}
use Rattle.equations.proofs.find_place.Given as goal

abbrev pub invariant-loop-byte : goal.invariant-loop-byte
invariant-loop-byte l =
    (l.ended ≤ l.byte-index) × (l.passed ≤ l.byte-index) × (l.ended ≡ ends_in (take l.byte-index l.file)) × (l.passed ≡ since_end (take l.byte-index l.file))

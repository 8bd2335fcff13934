use mathlib.Core.Path.{◌≡◌}
use Prim.Native.Nat.{ℕ, ◌+◌}
use lib.ListN.{get_or}
use Rattle.sweep.proofs.Finding.{first_from}
use Rattle.sweep.proofs.find_key.Given as goal

abbrev pub invariant-loop-i : goal.invariant-loop-i
invariant-loop-i l = let from = first_from l.key (λ (j : ℕ). get_or l.keys j 0) l.count in
    l.i + from l.i ≡ from 0

-- `sweep::in_eight` meets its contract. Assumes nothing.
use Prim.Native.Nat.{ℕ}
use lib.ListN.{get_or}
use Rattle.circuit.proofs.LineLaws.{or-false}
use Rattle.sweep.proofs.Finding.{misses_on}
use Rattle.sweep.proofs.in_eight.Goals as goal

pub returns : goal.returns
returns c = let a = c.args in
    λ e. let z = or-false c.in_four-first.result c.in_four-second.result e in
    misses_on a.key (λ (j : ℕ). get_or a.keys.now j 0) a.i 4 4 (c.in_four-first.ensures z.0) (c.in_four-second.ensures z.1)

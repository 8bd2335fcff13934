-- `sweep::in_four` meets its contract. Assumes nothing.
use Prim.Native.Nat.{ℕ}
use lib.ListN.{get_or}
use Rattle.sweep.proofs.Finding.{misses_four}
use Rattle.sweep.proofs.in_four.Goals as goal

pub returns : goal.returns
returns c = let a = c.args in
    λ e. misses_four a.key (λ (j : ℕ). get_or a.keys.now j 0) a.i e

-- `sweep::pass_over` meets its contract. The invariant: no key so far is the one that is sought. Assumes nothing.
use borrow.Author.Rules.{rules}
use Prim.Native.Nat.{ℕ}
use native.Mathlib.Omega.{arith}
use lib.ListN.{get_or}
use Rattle.sweep.proofs.Finding.{misses_on}
use Rattle.sweep.proofs.pass_over.Goals as goal

pub loop-i-preserved : goal.loop-i-preserved
loop-i-preserved c = let a = c.args in (
  search rules,
  misses_on a.key (λ (j : ℕ). get_or a.keys.now j 0) 0 c.loop-i.i 8 c.loop-i.invariant.1 (λ k l m. c.in_eight.ensures c.if-in_eight.false k (omega arith) (omega arith)),
)

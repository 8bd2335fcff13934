-- `sweep::find_key` meets its contract. The invariant: what is left to search has the place. Assumes nothing.
use Prim.Native.Nat.{ℕ}
use native.Mathlib.Omega.{arith}
use borrow.Author.Rules.{rules}
use lib.ListN.{get_or}
use Rattle.sweep.proofs.Finding.{find_hit, find_miss, find_end, find_past}
use Rattle.sweep.proofs.find_key.Goals as goal

pub loop-i-init : goal.loop-i-init
loop-i-init c = let a = c.args in
    let p = c.pass_over-passed.ensures in
    find_past a.key (λ (j : ℕ). get_or a.keys.now j 0) a.count c.pass_over-passed.result p.0 p.1

pub returns-then-key-keys : goal.returns-then-key-keys
returns-then-key-keys c = let a = c.args in
    let hit = find_hit a.key (λ (j : ℕ). get_or a.keys.now j 0) a.count c.loop-i.i (omega arith) c.if-key-keys.true in
    (omega (arith, c.loop-i.invariant, hit), search rules)

pub loop-i-preserved : goal.loop-i-preserved
loop-i-preserved c = let a = c.args in
    let miss = find_miss a.key (λ (j : ℕ). get_or a.keys.now j 0) a.count c.loop-i.i (omega arith) c.if-key-keys.false in
    omega (arith, c.loop-i.invariant, miss)

pub returns : goal.returns
returns c = let a = c.args in
    let end = find_end a.key (λ (j : ℕ). get_or a.keys.now j 0) a.count c.loop-i.i (omega arith) in
    (omega (arith, c.loop-i.invariant, end, c.pass_over-passed.ensures.0), search rules)

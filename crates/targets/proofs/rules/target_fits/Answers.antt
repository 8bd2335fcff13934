-- `targets::rules::target_fits` meets its contract. Assumes nothing.
use native.Mathlib.Omega.{arith}
use borrow.Author.Tests.{tests, eqb-true, eqb-false}
use mathlib.Core.Path.{◌≡◌, ◌∙◌, sym}
use mathlib.Core.Bool.{◌&&◌}
use Prim.Native.Nat.{◌+◌, ◌^◌}
use lib.Dec.{leb, eqb}
use lib.ListN.{length}
use Rattle.targets.proofs.Fitting.{rows_fit, rows_unfit, entries_fit, entries_unfit}
use Rattle.targets.proofs.rules.target_fits.Goals as goal
use Rattle.targets.proofs.rules.target_fits.Goals.{Joined-m-bytes, then-m-bytes, else-m-bytes, Joined-m-le-ENTRY_BITS, then-m-le-ENTRY_BITS, else-m-le-ENTRY_BITS}

-- a matrix is as long as it must be
long : (c : Joined-m-bytes) → let a = c.args in c.if-m-bytes.value ≡ eqb (length a.bytes.now) (a.m + a.m)
long c = elim c.if-m-bytes.branch [ then-m-bytes w ↦ grind (arith, tests) | else-m-bytes w ↦ grind (arith, tests) ]

-- so is a table
wide : (c : Joined-m-le-ENTRY_BITS) → let a = c.args in c.if-m-le-ENTRY_BITS.value ≡ (leb a.m 8 && eqb (length a.bytes.now) (2 ^ a.n))
wide c = elim c.if-m-le-ENTRY_BITS.branch [ then-m-le-ENTRY_BITS w ↦ grind (arith, tests) | else-m-le-ENTRY_BITS w ↦ grind (arith, tests) ]

pub returns-then-bytes-m : goal.returns-then-bytes-m
returns-then-bytes-m c = let a = c.args in
    c.rows_fit.ensures ∙ rows_fit a.only a.n a.m a.bytes.now c.if-only.true (eqb-true _ _ (sym (long (goal.at.returns-then-bytes-m c).Joined-m-bytes) ∙ c.if-bytes-m.true))

pub returns-else-bytes-m : goal.returns-else-bytes-m
returns-else-bytes-m c = let a = c.args in
    c.if-bytes-m.false ∙ rows_unfit a.only a.n a.m a.bytes.now c.if-only.true (eqb-false _ _ (sym (long (goal.at.returns-else-bytes-m c).Joined-m-bytes) ∙ c.if-bytes-m.false))

pub returns-then-is_power : goal.returns-then-is_power
returns-then-is_power c = let a = c.args in
    c.entries_fit.ensures ∙ entries_fit a.only a.n a.m a.bytes.now c.if-only.false (sym (wide (goal.at.returns-then-is_power c).Joined-m-le-ENTRY_BITS) ∙ c.if-is_power.true)

pub returns-else-is_power : goal.returns-else-is_power
returns-else-is_power c = let a = c.args in
    c.if-is_power.false ∙ entries_unfit a.only a.n a.m a.bytes.now c.if-only.false (sym (wide (goal.at.returns-else-is_power c).Joined-m-le-ENTRY_BITS) ∙ c.if-is_power.false)

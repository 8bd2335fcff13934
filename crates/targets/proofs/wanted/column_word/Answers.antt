-- `targets::wanted::column_word` meets its contract. The invariant: the bits from b on are packed. Assumes nothing.
use native.Mathlib.Nat.{zero-add}
use native.Mathlib.Omega.{arith}
use mathlib.Core.Path.{◌≡◌, ap, ◌∙◌}
use mathlib.Core.List.{List}
use Prim.Native.Nat.{ℕ, ◌<◌, ◌-◌, ◌+◌, ◌^◌}
use Rattle.circuit.specs.Gate.{bit}
use Rattle.circuit.proofs.GateLaws.{bit-lt}
use Rattle.targets.specs.Wanted.{packed}
use Rattle.targets.proofs.Packing.{packed_before, packed_fits}
use Rattle.targets.proofs.wanted.column_word.Goals as goal
use Rattle.targets.proofs.wanted.column_word.Goals.{After-from, In-loop-b}
use Rattle.targets.proofs.wanted.column_word.Invariants.{bits, tail}

-- one bit more before them, and the word that it makes fits
record More (table : List ℕ) (from j w b : ℕ) : Type 0 where
  is : w + w + bits table from j (b - 1) ≡ tail table from j (b - 1)
  fits : w + w + bits table from j (b - 1) < 2 ^ 64

more : (c : In-loop-b) → let a = c.args in More a.table.now a.from a.j c.loop-b.w c.loop-b.b
more c =
    let a = c.args in
    let f = bits a.table.now a.from a.j in
    let b = c.loop-b.b in
    let e = packed_before f b c.loop-b.w c.loop-b-test.true c.loop-b.auto.b c.loop-b.invariant in
    let l = packed_fits (λ (i : ℕ). f (b - 1 + i)) (λ i. bit-lt a.j _) (64 - (b - 1)) (omega arith) in
    record { is = e; fits = omega (arith, e, l) }

pub overflow_add-w : goal.overflow_add-w
overflow_add-w c = let m = (more (goal.at.overflow_add-w c).In-loop-b).fits in omega arith

-- the bit of what was read
read-bit : (c : After-from) → let a = c.args in
    bit a.j c.from.result ≡ bits a.table.now a.from a.j (c.loop-b.b - 1)
read-bit c = ap (bit c.args.j) c.from.ensures

pub overflow_add-w-in-loop-b : goal.overflow_add-w-in-loop-b
overflow_add-w-in-loop-b c = let m = (more (goal.at.overflow_add-w-in-loop-b c).In-loop-b).fits in let e = read-bit (goal.at.overflow_add-w-in-loop-b c).After-from in omega arith

pub loop-b-preserved : goal.loop-b-preserved
loop-b-preserved c = ap (λ (x : ℕ). c.loop-b.w + c.loop-b.w + x) (read-bit (goal.at.loop-b-preserved c).After-from) ∙ (more (goal.at.loop-b-preserved c).In-loop-b).is

pub returns : goal.returns
returns c = let a = c.args in
    let f = bits a.table.now a.from a.j in
    let e : c.loop-b.b ≡ 0 = omega arith in
    c.loop-b.invariant ∙ ap (tail a.table.now a.from a.j) e ∙ (λ t. packed (λ (i : ℕ). f (zero-add i t)) 64)

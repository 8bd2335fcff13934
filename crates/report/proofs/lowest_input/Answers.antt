-- `report::lowest_input` meets its contract: word by word. Assumes nothing.
use native.Mathlib.Omega.{arith}
use mathlib.Core.Path.{ap, ◌∙◌, sym}
use Prim.Native.Nat.{ℕ, ◌+◌}
use native.Mathlib.Nat.{zero-add}
use lib.Dec.{eqb}
use Rattle.circuit.specs.Gate.{bit}
use Rattle.report.proofs.Smallest.{least-to}
use Rattle.report.proofs.Blocks.{block, block_here, block-past}
use Rattle.report.proofs.lowest_input.Goals as goal

pub returns-then-a-lt64 : goal.returns-then-a-lt64
returns-then-a-lt64 c = let w = c.args.w in
    let e = c.lowest_bit-a.ensures in
    e ∙ sym (zero-add _) ∙ block_here w 0 192 (omega arith)

pub returns-then-b-lt64 : goal.returns-then-b-lt64
returns-then-b-lt64 c = let w = c.args.w in
    let e = c.lowest_bit-a.ensures in
    let f = c.lowest_bit-b.ensures in
    ap (λ (r : ℕ). 64 + r) f ∙ block_here w 1 128 (omega arith) ∙ block-past w 0 192 (omega arith)

pub returns-then-c-lt64 : goal.returns-then-c-lt64
returns-then-c-lt64 c = let w = c.args.w in
    let e = c.lowest_bit-a.ensures in
    let f = c.lowest_bit-b.ensures in
    let g = c.lowest_bit-c.ensures in
    ap (λ (r : ℕ). 128 + r) g ∙ block_here w 2 64 (omega arith) ∙ block-past w 1 128 (omega arith) ∙ block-past w 0 192 (omega arith)

pub overflow_add-result-2 : goal.overflow_add-result-2
overflow_add-result-2 c = let w = c.args.w in
    omega (arith, c.lowest_bit.ensures, least-to (λ (i : ℕ). eqb (bit i w.w3) 1) 64 0)

pub returns : goal.returns
returns c = let w = c.args.w in
    let e = c.lowest_bit-a.ensures in
    let f = c.lowest_bit-b.ensures in
    let g = c.lowest_bit-c.ensures in
    ap (λ (r : ℕ). 192 + r) c.lowest_bit.ensures
    ∙ block w 3 ∙ block-past w 2 64 (omega arith) ∙ block-past w 1 128 (omega arith) ∙ block-past w 0 192 (omega arith)

-- `hint::input_masks` meets its contract. The invariant: the inputs so far, and nothing past them. Assumes nothing.
use native.Mathlib.Omega.{arith}
use mathlib.Core.Path.{◌≡◌, refl, ap, ◌∙◌}
use mathlib.Core.List.{List}
use Prim.Native.Nat.{ℕ, ◌*◌, ◌%◌, ◌^◌}
use lib.ListN.{set}
use Rattle.circuit.specs.Lines.{padded, upto}
use Rattle.circuit.specs.Rows.{input_masks}
use Rattle.circuit.specs.Sizes.{most_lines}
use Rattle.circuit.proofs.Upto.{upto_put}
use Rattle.hint.proofs.Summing.{input_is}
use Rattle.hint.proofs.input_masks.Goals as goal

pub loop-i-init : goal.loop-i-init
unfolding upto
loop-i-init c = refl

pub loop-i-preserved : goal.loop-i-preserved
loop-i-preserved c = let i = c.loop-i.i in
    let v = (1 * 2 ^ i) % 2 ^ 8 in
    ap (λ (l : List ℕ). set l i v) c.loop-i.invariant ∙ upto_put most_lines 0 (λ (k : ℕ). 2 ^ k) i v (input_is i (omega arith)) (omega arith)

pub returns : goal.returns
returns c = let e : c.loop-i.i ≡ c.args.n = omega arith in
    c.loop-i.invariant ∙ ap (λ (x : ℕ). padded most_lines 0 (input_masks x)) e

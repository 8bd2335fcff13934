-- `sweep::first_lines` meets its contract. Assumes nothing.
use mathlib.Core.Path.{ap, sym, ◌∙◌}
use mathlib.Core.List.{List}
use Prim.Native.Nat.{ℕ}
use native.Mathlib.Omega.{arith}
use native.Mathlib.Nat.{mod-eq_of_lt}
use lib.ListN.{set}
use Rattle.circuit.specs.Lines.{upto}
use Rattle.circuit.specs.Sizes.{most_lines}
use Rattle.circuit.proofs.Padding.{padded-none}
use Rattle.circuit.proofs.Upto.{upto_put}
use Rattle.sweep.proofs.first_lines.Goals as goal

pub loop-i-init : goal.loop-i-init
unfolding upto
loop-i-init c = sym (padded-none {A = ℕ} most_lines 0)

pub loop-i-preserved : goal.loop-i-preserved
loop-i-preserved c =
    ap (λ (l : List ℕ). set l c.loop-i.i c.low16.result) c.loop-i.invariant
    ∙ upto_put most_lines 0 (λ (k : ℕ). k) c.loop-i.i c.low16.result (c.low16.ensures ∙ mod-eq_of_lt (omega arith)) (omega arith)

-- `sweep::point_outs` meets its contract. Assumes nothing.
use mathlib.Core.Path.{ap, sym, ◌∙◌}
use mathlib.Core.List.{List}
use Prim.Native.Nat.{ℕ}
use native.Mathlib.Omega.{arith}
use lib.ListN.{set, get_or}
use Rattle.circuit.specs.Lines.{upto}
use Rattle.circuit.specs.Sizes.{most_outputs}
use Rattle.circuit.specs.Structs.{line_in}
use Rattle.circuit.proofs.Padding.{padded-none}
use Rattle.circuit.proofs.Upto.{upto_put}
use Rattle.sweep.proofs.point_outs.Goals as goal

pub loop-i-init : goal.loop-i-init
unfolding upto
loop-i-init c = sym (padded-none {A = ℕ} most_outputs 0)

pub loop-i-preserved : goal.loop-i-preserved
loop-i-preserved c = let a = c.args in
    ap (λ (l : List ℕ). set l c.loop-i.i (get_or a.new c.line_index.result 0)) c.loop-i.invariant
    ∙ upto_put most_outputs 0 (λ (k : ℕ). get_or a.new (line_in (get_or a.old k 0)) 0) c.loop-i.i _ (ap (λ (x : ℕ). get_or a.new x 0) c.line_index.ensures.0) (omega arith)

-- `circuit::depth::line_depths` meets its contract. The invariant: the array holds the depths so far. Assumes nothing.
use mathlib.Core.Path.{◌≡◌, subst, ap, ◌∙◌}
use Prim.Native.Nat.{ℕ}
use native.Mathlib.Omega.{arith}
use Rattle.circuit.specs.Structs.{line_in}
use Rattle.circuit.proofs.Operands.{second_line}
use Rattle.circuit.proofs.Depths.{Held, held_start, held_next}
use Rattle.circuit.proofs.depth.line_depths.Goals as goal

pub loop-k-init : goal.loop-k-init
loop-k-init c = held_start c.args.c c.requires.0

pub loop-k-preserved : goal.loop-k-preserved
loop-k-preserved c =
    held_next c.args.c c.loop-k.k c.loop-k.deep (omega arith) (omega arith) c.loop-k.invariant c.line_index-first.result c.line_index-second.result
    c.deeper.result c.line_index-first.ensures.0 (c.line_index-second.ensures.0 ∙ ap line_in c.second_read.ensures ∙ second_line _ _ _) c.deeper.ensures

pub returns : goal.returns
returns c = let a = c.args.c in
    let e : c.loop-k.k ≡ a.g = omega arith in
    subst (λ (j : ℕ). Held a j c.loop-k.deep) e c.loop-k.invariant

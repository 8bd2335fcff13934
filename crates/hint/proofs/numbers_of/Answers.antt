-- `hint::numbers_of` meets its contract. The invariant: the numbers so far, and zeros past them. Assumes nothing.
use native.Mathlib.Omega.{arith}
use mathlib.Core.Path.{◌≡◌, ap, ◌∙◌}
use Prim.Native.Nat.{ℕ}
use lib.ListN.{get_or}
use Rattle.hint.specs.Parts.{numbered}
use Rattle.hint.proofs.Numbering.{numbered-none, numbered-put}
use Rattle.hint.proofs.numbers_of.Goals as goal

pub loop-k-init : goal.loop-k-init
loop-k-init c = numbered-none _ _

pub loop-k-preserved : goal.loop-k-preserved
loop-k-preserved c = numbered-put _ _ c.loop-k.k _ _ (omega arith) (ap (λ (x : ℕ). get_or c.args.lines.now x 0) c.line_index.ensures.0) c.loop-k.invariant

pub returns : goal.returns
returns c = let e : c.loop-k.k ≡ c.args.count = omega arith in
    c.loop-k.invariant ∙ ap (numbered _ _) e

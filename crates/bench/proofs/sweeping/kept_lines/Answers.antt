-- `kept_lines`: after k gates the array lists their lines, and k is how many they are. Assumes nothing.
use mathlib.Core.Path.{◌≡◌, ◌∙◌, subst}
use Prim.Native.Nat.{ℕ}
use native.Mathlib.Omega.{arith}
use native.Mathlib.Nat.{mod-eq_of_lt}
use Rattle.bench.proofs.Places.{Tells}
use Rattle.bench.proofs.Sweeps.{lines_of, lines_none, lines_next}
use Rattle.bench.proofs.sweeping.kept_lines.Goals as goal

pub loop-k-init : goal.loop-k-init
loop-k-init c = lines_none c.args.n

pub loop-k-preserved : goal.loop-k-preserved
loop-k-preserved c = let n = c.args.n in
    lines_next n c.loop-k.k c.loop-k.lines c.low16.result (c.low16.ensures ∙ mod-eq_of_lt (omega arith)) (omega arith) c.loop-k.invariant

pub returns : goal.returns
returns c = let a = c.args in
    let e : c.loop-k.k ≡ a.g = omega arith in
    subst (λ (k : ℕ). Tells c.loop-k.lines k (lines_of a.n k)) e c.loop-k.invariant

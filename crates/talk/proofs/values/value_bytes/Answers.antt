-- `talk::values::value_bytes` meets its contract. Assumes nothing.
use mathlib.Core.Path.{◌≡◌, refl, ap, ap₂, ◌∙◌}
use mathlib.Core.List.{List}
use Prim.Native.Nat.{ℕ}
use native.Mathlib.Omega.{arith}
use lib.ListN.{set}
use Rattle.circuit.specs.Gate.{value_in}
use Rattle.circuit.specs.Lines.{upto, padded}
use Rattle.circuit.proofs.Upto.{upto_put}
use Rattle.talk.specs.Texts.{value_bytes, byte_of}
use Rattle.talk.specs.Saying.{packed_most}
use Rattle.talk.proofs.values.value_bytes.Goals as goal

pub loop-j-init : goal.loop-j-init
unfolding upto
loop-j-init c = refl

pub loop-j-preserved : goal.loop-j-preserved
loop-j-preserved c = let l = c.loop-j in
    let a = c.args in
    ap₂ (λ (b : List ℕ) (v : ℕ). set b l.j v) l.invariant c.value_byte.ensures ∙ upto_put packed_most 0 (byte_of (value_in a.w) a.n) l.j _ refl (omega arith)

pub returns : goal.returns
returns c = let l = c.loop-j in
    let a = c.args in
    let e : l.j ≡ value_bytes a.n = omega arith in
    l.invariant ∙ ap (λ (k : ℕ). padded packed_most 0 (upto (byte_of (value_in a.w) a.n) k)) e

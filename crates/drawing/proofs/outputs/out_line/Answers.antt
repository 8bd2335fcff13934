use mathlib.Core.Path.{sym, ◌∙◌}
use native.Mathlib.Nat.{sub-zero}
use Prim.Native.Nat.{◌<◌}
use Rattle.formula.specs.Names.{few_names}
use native.Mathlib.Omega.{arith}
use Rattle.drawing.proofs.Searching.{out_end, out_hit, out_miss}
use Rattle.drawing.proofs.outputs.out_line.Goals as goal

pub loop-i-init : goal.loop-i-init
loop-i-init c = rw sub-zero

pub returns-then-is_after : goal.returns-then-is_after
returns-then-is_after c =
    let h : c.loop-i.i < few_names c.args.names.now.n = omega (arith, c.len-i-end.ensures.is, c.loop-i-test.true) in
    sym (c.loop-i.invariant ∙ out_hit _ _ _ _ _ h (sym c.is_after.ensures ∙ c.if-is_after.true))

pub loop-i-preserved : goal.loop-i-preserved
loop-i-preserved c =
    let h : c.loop-i.i < few_names c.args.names.now.n = omega (arith, c.len-i-end.ensures.is, c.loop-i-test.true) in
    c.loop-i.invariant ∙ out_miss _ _ _ _ _ h (sym c.is_after.ensures ∙ c.if-is_after.false)

pub returns : goal.returns
returns c = sym (c.loop-i.invariant ∙ out_end _ _ _ _ _ (omega (arith, c.len-i-end.ensures.is, c.loop-i-test.false)))

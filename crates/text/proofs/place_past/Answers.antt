-- `text::place_past` meets its contract. The invariant: what is left gives the whole answer. Assumes nothing.
use Rattle.std.proofs.Common.{arith, rules, ◌∙◌}
use mathlib.Core.Path.{sym}
use Rattle.text.proofs.Places.{run_here, run_next, run_end}
use Rattle.text.proofs.place_past.Goals as goal

pub returns-then-not-passes : goal.returns-then-not-passes
returns-then-not-passes g c = λ test d.
    omega (
      arith,
      c.loop-i.invariant test d,
      run_here test c.args.s.now c.loop-i.i c.loop-i-test.true
          (sym (d _ _ (search rules) c.passes.ensures) ∙ c.if-not-passes.true),
    )

pub loop-i-preserved : goal.loop-i-preserved
loop-i-preserved g c = λ test d.
    omega (
      arith,
      c.loop-i.invariant test d,
      run_next test c.args.s.now c.loop-i.i c.loop-i-test.true
          (sym (d _ _ (search rules) c.passes.ensures) ∙ c.if-not-passes.false),
    )

pub returns : goal.returns
returns g c = λ test d.
    let here = c.loop-i.invariant test d in
    let none = run_end test c.args.s.now c.loop-i.i c.loop-i-test.false in
    let start = run_end test c.args.s.now c.args.from in
    grind (arith, here, none, start)

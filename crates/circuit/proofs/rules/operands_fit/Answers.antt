-- `circuit::rules::operands_fit` meets its contract, by how many operands a kind has. Assumes nothing.
use mathlib.Core.Path.{ap, ◌∙◌, sym}
use mathlib.Core.Bool.{Bool, ◌&&◌}
use native.Mathlib.Omega.{arith}
use borrow.Author.Tests.{le-ltb, lt-ltb}
use lib.Dec.{ltb, eqb}
use Rattle.circuit.specs.Lines.{gate}
use Rattle.circuit.proofs.RuleLaws.{two_fit, one_fits, none_fit}
use Rattle.circuit.proofs.rules.operands_fit.Goals as goal

pub returns-else-a-line : goal.returns-else-a-line
returns-else-a-line c = let a = c.args in
    let e = le-ltb _ _ c.if-a-line.false in
    e ∙ sym (none_fit a.line (gate a.kind a.a a.b) e)

pub returns-in-0-to-5 : goal.returns-in-0-to-5
returns-in-0-to-5 c = let a = c.args in
    sym (two_fit a.line (gate a.kind a.a a.b) (omega arith) ∙ ap (λ (t : Bool). t && ltb a.b a.line) (lt-ltb _ _ c.if-a-line.true))

pub returns-in_default : goal.returns-in_default
returns-in_default c = let a = c.args in
    sym (one_fits a.line (gate a.kind a.a a.b) (omega arith) ∙ ap (λ (t : Bool). t && eqb a.b 0) (lt-ltb _ _ c.if-a-line.true))

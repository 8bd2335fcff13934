-- `point_output`: a refusal is what was looked at; else the output names the line. Assumes nothing.
use mathlib.Core.Path.{◌≡◌, ◌∙◌, sym, ap}
use Prim.Native.Nat.{ℕ}
use native.Mathlib.Nat.{mod-eq_of_lt}
use native.Mathlib.Omega.{arith}
use lib.ListN.{set}
use Rattle.circuit.specs.Rules.{done}
use Rattle.bench.specs.Parts.{output_look}
use Rattle.bench.proofs.EditLaws.{OutputFits, output_fits, output_refused, output_done, pointing}
use Rattle.bench.proofs.edits.point_output.Goals as goal
use Rattle.bench.proofs.edits.point_output.Goals.{After-low16}

-- what was looked at showed
looked : (c : After-low16) → let a = c.args in output_look a.bench a.j a.line ≡ done
looked c = sym c.look_at_output.ensures ∙ c.in_default.is

ok : (c : After-low16) → let a = c.args in OutputFits a.bench.n a.bench.m a.bench.g a.j a.line
ok c = output_fits _ _ _ (looked c)

pub offset_bounds-c-j : goal.offset_bounds-c-j
offset_bounds-c-j c = omega (arith, ok c, (ok c).shape)

pub bounds-c-j : goal.bounds-c-j
bounds-c-j c = omega (arith, ok c, (ok c).shape)

pub returns-in-Err : goal.returns-in-Err
returns-in-Err c = let a = c.args in
    output_refused a.j a.line a.bench _ (sym c.look_at_output.ensures ∙ c.in-Err.is)

pub returns : goal.returns
returns c = let a = c.args in
    let t = goal.at.returns c in
    output_done a.j a.line a.bench _ (looked t.After-low16)
    (ap (λ (x : ℕ). pointing a.bench (set a.bench.outputs a.j x)) (c.low16.ensures ∙ mod-eq_of_lt (omega (arith, ok t.After-low16, (ok t.After-low16).shape))))

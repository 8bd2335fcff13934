use Rattle.sheet.proofs.Laws.{too_many, no_name, long_name, known_name, no_sign, formula_refused, line_more, line_over}
use Rattle.std.proofs.lemmas.Result.{err_from_is_err_and}
use mathlib.Core.Path.{sym, ◌∙◌}
use Rattle.sheet.proofs.assign.Goals as goal

pub returns-then-names-ge-NAMES : goal.returns-then-names-ge-NAMES
returns-then-names-ge-NAMES c = too_many _ _ _ c.args.gates.now _ c.if-names-ge-NAMES.true c.fail.ensures

pub returns-then-e-p : goal.returns-then-e-p
returns-then-e-p c = no_name _ _ _ c.args.gates.now c.if-names-ge-NAMES.false _ c.scan-e.ensures _ c.if-e-p.true c.fail-then-e-p.ensures

pub returns-then-e-p-gt-LONGEST : goal.returns-then-e-p-gt-LONGEST
returns-then-e-p-gt-LONGEST c = long_name _ _ _ c.args.gates.now c.if-names-ge-NAMES.false _ c.scan-e.ensures _ c.if-e-p.false c.if-e-p-gt-LONGEST.true c.fail-then-e-p-gt-LONGEST.ensures

pub returns-then-is_some : goal.returns-then-is_some
returns-then-is_some c = known_name _ _ _ c.args.gates.now c.if-names-ge-NAMES.false _ c.scan-e.ensures c.if-e-p.false c.if-e-p-gt-LONGEST.false _ c.look_up.ensures _ (sym c.is_some.ensures ∙ c.if-is_some.true) c.fail-then-is_some.ensures

pub returns-then-not-sees : goal.returns-then-not-sees
returns-then-not-sees c = no_sign _ _ _ c.args.gates.now c.if-names-ge-NAMES.false _ c.scan-e.ensures c.if-e-p.false c.if-e-p-gt-LONGEST.false _ c.look_up.ensures (sym c.is_some.ensures ∙ c.if-is_some.false) _ c.scan-q.ensures _ (sym c.sees.ensures.is ∙ c.if-not-sees.true) c.fail-then-not-sees.ensures

pub returns-in_err-z : goal.returns-in_err-z
returns-in_err-z c =
    let p = err_from_is_err_and c.from_residual.result c.from_residual.ensures.1 in
    rw (p.1, p.2) (formula_refused _ _ _ c.args.gates.now c.if-names-ge-NAMES.false _ c.scan-e.ensures c.if-e-p.false c.if-e-p-gt-LONGEST.false _ c.look_up.ensures (sym c.is_some.ensures ∙ c.if-is_some.false) _ c.scan-q.ensures (sym c.sees.ensures.is ∙ c.if-not-sees.false) _ _ c.in_err-z.ensures)

pub returns-then-not-line_ends : goal.returns-then-not-line_ends
returns-then-not-line_ends c = line_more _ _ _ c.args.gates.now c.if-names-ge-NAMES.false _ c.scan-e.ensures c.if-e-p.false c.if-e-p-gt-LONGEST.false _ c.look_up.ensures (sym c.is_some.ensures ∙ c.if-is_some.false) _ c.scan-q.ensures (sym c.sees.ensures.is ∙ c.if-not-sees.false) _ _ _ c.in_ok-z.ensures _ (sym c.line_ends.ensures ∙ c.if-not-line_ends.true) c.fail-then-not-line_ends.ensures

pub returns : goal.returns
returns c = line_over _ _ _ c.args.gates.now c.if-names-ge-NAMES.false _ c.scan-e.ensures c.if-e-p.false c.if-e-p-gt-LONGEST.false _ c.look_up.ensures (sym c.is_some.ensures ∙ c.if-is_some.false) _ c.scan-q.ensures (sym c.sees.ensures.is ∙ c.if-not-sees.false) _ _ _ c.in_ok-z.ensures (sym c.line_ends.ensures ∙ c.if-not-line_ends.false)

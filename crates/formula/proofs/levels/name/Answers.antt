use Rattle.formula.proofs.Table.{name_none, name_long, name_found, name_unknown}
use Rattle.formula.proofs.levels.name.Goals as goal

pub returns-then-e-p : goal.returns-then-e-p
returns-then-e-p c = name_none _ _ _ _ c.args.gates.now c.scan-e.ensures _ c.if-e-p.true c.fail.ensures

pub returns-then-e-p-gt-LONGEST : goal.returns-then-e-p-gt-LONGEST
returns-then-e-p-gt-LONGEST c = name_long _ _ _ _ c.args.gates.now c.scan-e.ensures _ c.if-e-p.false c.if-e-p-gt-LONGEST.true c.fail-then-e-p-gt-LONGEST.ensures

pub returns-in_default : goal.returns-in_default
returns-in_default c = name_unknown _ _ _ _ c.args.gates.now c.scan-e.ensures _ _ c.if-e-p.false c.if-e-p-gt-LONGEST.false c.look_up.ensures c.in_default.is c.fail-in_default.ensures

pub returns : goal.returns
returns c = name_found _ _ _ _ c.args.gates.now c.scan-e.ensures _ _ _ _ c.if-e-p.false c.if-e-p-gt-LONGEST.false c.look_up.ensures c.in-Some.is c.use_line.ensures c.scan.ensures

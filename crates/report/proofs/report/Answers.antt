-- `report::report` meets its contract, on any bench. Assumes nothing.
use mathlib.Core.Path.{◌∙◌, sym}
use Rattle.circuit.proofs.Shapes.{Shaped}
use Rattle.bench.proofs.Stood.{standing-shaped}
use Rattle.report.proofs.Judging.{given, not_given}
use Rattle.report.proofs.report.Goals as goal
use Rattle.report.proofs.report.Goals.{Else-not-is_standing}

-- what the test showed
ok : (c : Else-not-is_standing) → let b = c.args.bench in Shaped b.n b.m b.g
ok c =
    let b = c.args.bench in
    standing-shaped b.is_open b.n b.m b.g (sym c.is_standing.ensures ∙ c.if-not-is_standing.false)

pub shared_ref_as_front-tally : goal.shared_ref_as_front-tally
shared_ref_as_front-tally c = (ok (goal.at.shared_ref_as_front-tally c).Else-not-is_standing).g_most

pub shared_ref_as_front-overall_of : goal.shared_ref_as_front-overall_of
shared_ref_as_front-overall_of c = (ok (goal.at.shared_ref_as_front-overall_of c).Else-not-is_standing).m_most

pub judge-verdict-requires : goal.judge-verdict-requires
judge-verdict-requires c = let o = ok (goal.at.judge-verdict-requires c).Else-not-is_standing in (o.n_most, o.m_most)

pub returns-then-not-is_standing : goal.returns-then-not-is_standing
returns-then-not-is_standing c = not_given c.args.bench (sym c.is_standing.ensures ∙ c.if-not-is_standing.true)

pub returns : goal.returns
returns c = given c.args.bench _ _ _ _ (sym c.is_standing.ensures ∙ c.if-not-is_standing.false) c.tally-counts.ensures c.overall_of-depth.ensures c.overall_of-and_depth.ensures
    c.judge-verdict.ensures

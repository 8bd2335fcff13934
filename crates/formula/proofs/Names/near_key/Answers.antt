use Rattle.formula.proofs.Table.{low_passed, high_passed}
use native.Mathlib.Omega.{arith}
use Rattle.formula.proofs.Names.near_key.Goals as goal

pub returns-then-b-eq0 : goal.returns-then-b-eq0
returns-then-b-eq0 c = λ e lines g h. low_passed c.args.self.now.low c.args.self.now.high lines c.args.a c.args.b c.args.i _ g (c.near.ensures e) (omega arith)

pub returns-else-b-eq0 : goal.returns-else-b-eq0
returns-else-b-eq0 c = λ e lines g h. high_passed c.args.self.now.low c.args.self.now.high lines c.args.a c.args.b c.args.i _ g (c.near-else-b-eq0.ensures e) (omega arith)

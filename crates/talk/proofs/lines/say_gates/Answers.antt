-- `talk::lines::say_gates` meets its contract. Assumes nothing.
use mathlib.Core.Path.{ap₂}
use native.Mathlib.Omega.{arith}
use borrow.Author.Rules.{rules}
use Rattle.circuit.specs.Sizes.{most_inputs}
use Rattle.talk.specs.Words.{distance_name}
use Rattle.talk.specs.Texts.{listed_text}
use Rattle.talk.proofs.Spoken.{Shown, shown, said_as}
use Rattle.talk.proofs.lines.say_gates.Goals as goal
use Rattle.talk.proofs.lines.say_gates.Goals.{After-min-shown}

-- which lines are said
lines : (m : After-min-shown) → let a = m.args in Shown m.min-shown.result a.found.count most_inputs a.found.lines
lines m = let a = m.args in shown a.found.count most_inputs a.found.lines (search rules) m.min-shown.ensures

pub say_listed-requires : goal.say_listed-requires
say_listed-requires c = (search rules, omega (arith, (lines (goal.at.say_listed-requires c).After-min-shown).few))

pub returns : goal.returns
returns c = said_as (ap₂ (listed_text distance_name) c.from.ensures (lines (goal.at.returns c).After-min-shown).first) c.say_listed.ensures

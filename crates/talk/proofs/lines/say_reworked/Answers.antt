-- `talk::lines::say_reworked` meets its contract. Assumes nothing.
use mathlib.Core.Path.{ap}
use borrow.Author.Rules.{rules}
use Rattle.circuit.specs.Sizes.{most_lines}
use Rattle.talk.specs.Words.{reworked_name}
use Rattle.talk.specs.Texts.{listed_text}
use Rattle.talk.proofs.Spoken.{Shown, shown, said_as}
use Rattle.talk.proofs.lines.say_reworked.Goals as goal
use Rattle.talk.proofs.lines.say_reworked.Goals.{After-min-shown}

-- which lines are said
lines : (m : After-min-shown) → let a = m.args in Shown m.min-shown.result a.r.count most_lines a.r.lines
lines m = let a = m.args in shown a.r.count most_lines a.r.lines (search rules) m.min-shown.ensures

pub say_listed-requires : goal.say_listed-requires
say_listed-requires c = (search rules, (lines (goal.at.say_listed-requires c).After-min-shown).few)

pub returns : goal.returns
returns c = said_as (ap (listed_text reworked_name c.args.r.count) (lines (goal.at.returns c).After-min-shown).first) c.say_listed.ensures

-- `words::Words::finish` meets its contract. Assumes nothing.
use mathlib.Core.Path.{sym}
use Rattle.script.proofs.Steps.{at_end, past_end}
use Rattle.script.proofs.words.Words.finish.Goals as goal

pub returns-then-is_end : goal.returns-then-is_end
returns-then-is_end c = record { meaning = sym (at_end c.args.self.now c.is_end.ensures c.if-is_end.true _); places = c.requires.0; follows = c.requires.1 }

pub returns-else-is_end : goal.returns-else-is_end
returns-else-is_end c = past_end c.args.self.now c.is_end.ensures c.if-is_end.false _

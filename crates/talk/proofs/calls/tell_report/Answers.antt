-- `talk::calls::tell_report` meets its contract. Assumes nothing.
use mathlib.Core.Path.{ap}
use Rattle.talk.specs.Texts.{reported_text}
use Rattle.talk.proofs.Telling.{answers}
use Rattle.talk.proofs.calls.tell_report.Goals as goal

pub returns : goal.returns
returns c = answers _ c.say_reported-len.ensures (λ p k. (k.is, ap reported_text (c.report.ensures p k)))

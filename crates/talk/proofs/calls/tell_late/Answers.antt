-- `talk::calls::tell_late` meets its contract. Assumes nothing.
use Rattle.talk.specs.Words.{built_name}
use Rattle.talk.proofs.Telling.{answers}
use Rattle.talk.proofs.calls.tell_late.Goals as goal

pub returns : goal.returns
returns c = answers _ c.say_written-len.ensures (λ p k. (k.is, c.late_in-writing.ensures.said built_name))

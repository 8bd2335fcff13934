-- `talk::calls::tell_hint` meets its contract. Assumes nothing.
use mathlib.Core.Path.{ap}
use Rattle.talk.specs.Texts.{hinted_text}
use Rattle.talk.proofs.Telling.{answers}
use Rattle.talk.proofs.calls.tell_hint.Goals as goal

pub returns : goal.returns
returns c = answers _ c.say_hint-len.ensures (λ p k. (k.is, ap hinted_text (c.hint.ensures p k)))

-- `talk::calls::tell_unreadable` meets its contract. Assumes nothing.
use mathlib.Core.Path.{refl}
use Rattle.talk.proofs.Telling.{answers}
use Rattle.talk.proofs.calls.tell_unreadable.Goals as goal

pub returns : goal.returns
returns c = answers _ c.say-len.ensures (λ p k. (k.is, refl))

-- `talk::calls::tell_new` meets its contract. Assumes nothing.
use mathlib.Core.Path.{refl}
use Rattle.talk.proofs.Telling.{answers}
use Rattle.talk.proofs.calls.tell_new.Goals as goal

pub returns : goal.returns
returns c = answers _ c.say-len.ensures (λ p k. (c.empty-bench.ensures, refl))

-- `talk::calls::tell_held` meets its contract. Assumes nothing.
use Rattle.talk.proofs.Telling.{answers}
use Rattle.talk.proofs.Holding.{held_is}
use Rattle.talk.proofs.calls.tell_held.Goals as goal

pub returns : goal.returns
returns c = answers _ c.say_held-len.ensures (λ p k. (k.is, held_is c.args.b p k))

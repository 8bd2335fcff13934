-- `talk::calls::tell_store` meets its contract. Assumes nothing.
use Rattle.talk.specs.Words.{stored_name}
use Rattle.talk.proofs.Telling.{answers}
use Rattle.talk.proofs.calls.tell_store.Goals as goal

pub returns : goal.returns
returns c = answers _ c.say_written-len.ensures (λ p k. (k.is, c.store_in-writing.ensures.said stored_name p k))

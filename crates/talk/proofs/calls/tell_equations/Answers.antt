-- `talk::calls::tell_equations` meets its contract. Assumes nothing.
use Rattle.talk.proofs.Telling.{answers}
use Rattle.talk.proofs.calls.tell_equations.Goals as goal

pub returns : goal.returns
returns c = answers _ c.say_drawn-len.ensures (λ p k. (k.is, c.draw_in-drawn.ensures.said))

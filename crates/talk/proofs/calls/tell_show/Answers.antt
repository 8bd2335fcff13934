-- `talk::calls::tell_show` meets its contract. Assumes nothing.
use mathlib.Core.Path.{ap, ◌∙◌}
use Rattle.circuit.specs.declared.Circuit.{Circuit}
use Rattle.talk.specs.Saying.{shown_in}
use Rattle.talk.proofs.Telling.{answers}
use Rattle.talk.proofs.Showing.{shown_is}
use Rattle.talk.proofs.calls.tell_show.Goals as goal

pub returns : goal.returns
returns c = let r = c.report in
    answers _ c.say_show-len.ensures (λ p s. (
      s.is,
      ap (λ (x : Circuit). shown_in x r.result) c.circuit_of.ensures ∙ shown_is c.args.b r.result p s (r.ensures p s),
    ))

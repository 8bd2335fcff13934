-- `talk::calls::tell_limits` meets its contract. Assumes nothing.
use mathlib.Core.Path.{refl}
use Rattle.bench.specs.State.{Present}
use Rattle.bench.specs.Calls.{limits_answer, no_rework}
use Rattle.talk.specs.Texts.{edit_text}
use Rattle.talk.proofs.Telling.{answers_call}
use Rattle.talk.proofs.calls.tell_limits.Goals as goal

pub returns : goal.returns
returns c = answers_call edit_text (λ (p : Present). no_rework (limits_answer p)) c.told_edit.result c.set_limits.ensures (λ p. refl) c.told_edit.ensures

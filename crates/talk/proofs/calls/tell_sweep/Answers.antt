-- `talk::calls::tell_sweep` meets its contract. Assumes nothing.
use mathlib.Core.Path.{refl}
use Rattle.bench.specs.Calls.{sweep_edit}
use Rattle.talk.specs.Texts.{edit_text}
use Rattle.talk.proofs.Telling.{answers_call}
use Rattle.talk.proofs.calls.tell_sweep.Goals as goal

pub returns : goal.returns
returns c = answers_call edit_text sweep_edit c.told_edit.result c.sweep.ensures (λ p. refl) c.told_edit.ensures

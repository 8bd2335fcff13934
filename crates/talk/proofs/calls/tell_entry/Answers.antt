-- `talk::calls::tell_entry` meets its contract. Assumes nothing.
use mathlib.Core.Path.{refl}
use Rattle.bench.specs.State.{Present}
use Rattle.bench.specs.Calls.{entry_edit_answer, no_rework}
use Rattle.talk.specs.Texts.{edit_text}
use Rattle.talk.proofs.Telling.{answers_call}
use Rattle.talk.proofs.calls.tell_entry.Goals as goal

pub returns : goal.returns
returns c = let e = c.args.e in
    answers_call edit_text (λ (p : Present). no_rework (entry_edit_answer p e.i e.value e.constant)) c.told_edit.result c.change_entry.ensures (λ p. refl) c.told_edit.ensures

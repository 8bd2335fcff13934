-- `talk::calls::tell_append` meets its contract. Assumes nothing.
use mathlib.Core.Path.{refl}
use Rattle.bench.specs.State.{Present}
use Rattle.bench.specs.Calls.{append_edit}
use Rattle.talk.specs.Texts.{edit_text}
use Rattle.talk.proofs.Telling.{answers_call}
use Rattle.talk.proofs.calls.tell_append.Goals as goal

pub returns : goal.returns
returns c = let e = c.args.e in
    answers_call edit_text (λ (p : Present). append_edit p e.kind e.a e.b) c.told_edit.result c.append_gate.ensures (λ p. refl) c.told_edit.ensures

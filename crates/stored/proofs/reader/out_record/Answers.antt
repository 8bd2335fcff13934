-- `stored::reader::out_record` meets its contract. Assumes nothing.
use mathlib.Core.Path.{ap, ◌∙◌}
use native.Mathlib.Omega.{arith}
use Rattle.circuit.specs.Rules.{out_answer}
use Rattle.stored.specs.Reading.{out_record}
use Rattle.stored.proofs.Accept.{mark_is}
use Rattle.stored.proofs.reader.out_record.Goals as goal

pub returns-then-not-starts_with : goal.returns-then-not-starts_with
unfolding out_record
returns-then-not-starts_with c = simp (mark_is c.args.part.now _ _ (omega arith) c.starts_with.ensures.value c.if-not-starts_with.true)

pub returns : goal.returns
unfolding out_record
returns c = c.check_output.ensures ∙ ap (out_answer c.args.lines) c.from.ensures
    ∙ simp (mark_is c.args.part.now _ _ (omega arith) c.starts_with.ensures.value c.if-not-starts_with.false)

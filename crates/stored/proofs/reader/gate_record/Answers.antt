-- `stored::reader::gate_record` meets its contract. Assumes nothing.
use mathlib.Core.Path.{◌≡◌, ◌∙◌}
use native.Mathlib.Omega.{arith}
use lib.ListN.{get_or}
use Rattle.circuit.specs.Rules.{gate_answer}
use Rattle.circuit.specs.Lines.{gate}
use Rattle.stored.specs.Reading.{gate_record}
use Rattle.stored.proofs.Accept.{mark_is}
use Rattle.stored.proofs.reader.gate_record.Goals as goal

pub returns-then-not-starts_with : goal.returns-then-not-starts_with
unfolding gate_record
returns-then-not-starts_with c = simp (mark_is c.args.part.now _ _ (omega arith) c.starts_with.ensures.value c.if-not-starts_with.true)

pub returns : goal.returns
unfolding gate_record
returns c = let a = c.args in
    let e : gate_answer a.only a.line (gate c.from.result c.from-2.result c.from-3.result)
    ≡ gate_answer a.only a.line (gate (get_or a.part.now 2 0) (get_or a.part.now 3 0) (get_or a.part.now 4 0)) =
    λ i. gate_answer a.only a.line (gate (c.from.ensures i) (c.from-2.ensures i) (c.from-3.ensures i)) in
    c.check_gate.ensures ∙ e ∙ simp (mark_is a.part.now _ _ (omega arith) c.starts_with.ensures.value c.if-not-starts_with.false)

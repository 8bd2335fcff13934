-- `bench::storing::store` meets its contract. Assumes nothing.
use mathlib.Core.Path.{◌∙◌, sym, subst}
use Rattle.circuit.specs.declared.Circuit.{Circuit}
use Rattle.stored.specs.Writing.{Wrote}
use Rattle.bench.proofs.StoreLaws.{stored_open, stored_shut}
use Rattle.bench.proofs.storing.store.Goals as goal

pub returns-then-not-is_standing : goal.returns-then-not-is_standing
returns-then-not-is_standing c = let a = c.args in
    stored_shut a.bench a.room.now (sym c.is_standing.ensures ∙ c.if-not-is_standing.true)

pub returns : goal.returns
returns c = let a = c.args in
    stored_open a.bench a.room.now c.write.result c.write.new.room (sym c.is_standing.ensures ∙ c.if-not-is_standing.false)
    (subst (λ (x : Circuit). Wrote x a.room.now c.write.result c.write.new.room) c.circuit_of.ensures c.write.ensures)

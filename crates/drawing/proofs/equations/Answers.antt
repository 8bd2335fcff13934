use Rattle.std.proofs.lemmas.Result.{err_from_is_err_and}
use mathlib.Core.Path.{refl}
use Rattle.drawing.proofs.Sketching.{drawn_none, drawn_written}
use Rattle.drawing.proofs.equations.Goals as goal

pub returns-in_err-circuit : goal.returns-in_err-circuit
returns-in_err-circuit c =
    let p = err_from_is_err_and c.from_residual.result c.from_residual.ensures.1 in
    rw (p.1, p.2) (drawn_none _ _ _ c.in_err-circuit.ensures)

pub returns-in_err-write : goal.returns-in_err-write
returns-in_err-write c =
    let p = err_from_is_err_and c.from_residual-in_err-write.result c.from_residual-in_err-write.ensures.1 in
    drawn_written _ _ _ _ _ _ c.in_ok-circuit.ensures c.in_err-write.ensures (rw (p.1, p.2))

pub returns : goal.returns
returns c = drawn_written _ _ _ _ _ _ c.in_ok-circuit.ensures c.in_ok-write.ensures refl

use Rattle.std.proofs.lemmas.Result.{err_from_is_err_and}
use mathlib.Core.Path.{◌∙◌}
use Rattle.drawing.proofs.Sketching.{sketch_gap, sketch_whole, sketch_on, sketch_no}
use Rattle.drawing.proofs.draw.Goals as goal

pub returns-in_err-book : goal.returns-in_err-book
returns-in_err-book c =
    let p = err_from_is_err_and c.from_residual.result c.from_residual.ensures.1 in
    rw (p.1, p.2) (sketch_no _ _ c.in_err-book.ensures)

pub returns-then-not-is_whole : goal.returns-then-not-is_whole
returns-then-not-is_whole c = sketch_gap _ c.in_ok-book.book _ c.numbers-numbers.ensures _ c.is_whole.ensures c.if-not-is_whole.true ∙ sketch_on _ _ _ c.in_ok-book.ensures

pub returns : goal.returns
returns c = sketch_whole _ c.in_ok-book.book _ c.numbers-numbers.ensures _ c.is_whole.ensures _ c.if-not-is_whole.false c.circuit_of.ensures ∙ sketch_on _ _ _ c.in_ok-book.ensures

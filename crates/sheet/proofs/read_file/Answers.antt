use Rattle.sheet.proofs.Laws.{ahead, begins, over, blank_line, refused_by, room, forth, assigned}
use Rattle.std.proofs.lemmas.Result.{err_from_is_err_and}
use native.Mathlib.Omega.{arith}
use Rattle.sheet.proofs.read_file.Goals as goal

pub loop-book-init : goal.loop-book-init
loop-book-init c = begins _ _ c.no_book-book.ensures

pub returns-then-s-q : goal.returns-then-s-q
returns-then-s-q c = over _ _ _ c.loop-book.invariant _ c.scan-q.ensures c.if-s-q.true

pub loop-book-smaller-then-s-q-eq10 : goal.loop-book-smaller-then-s-q-eq10
loop-book-smaller-then-s-q-eq10 c = omega (arith, ahead _ _ _ c.scan-q.ensures)

pub loop-book-preserved-then-s-q-eq10 : goal.loop-book-preserved-then-s-q-eq10
loop-book-preserved-then-s-q-eq10 c = blank_line _ _ _ c.loop-book.invariant _ c.scan-q.ensures c.if-s-q.false c.if-s-q-eq10.true

pub returns-in_err-z : goal.returns-in_err-z
returns-in_err-z c =
    let p = err_from_is_err_and c.from_residual.result c.from_residual.ensures.1 in
    rw (p.1, p.2) (refused_by _ _ _ c.loop-book.invariant _ c.scan-q.ensures c.if-s-q.false c.if-s-q-eq10.false _ _ c.in_err-z.ensures)

pub offset_bounds-book-book : goal.offset_bounds-book-book
offset_bounds-book-book c = omega (arith, room _ _ _ c.loop-book.invariant _ c.scan-q.ensures c.if-s-q.false c.if-s-q-eq10.false _ _ _ c.in_ok-z.ensures)

pub bounds-book-book : goal.bounds-book-book
bounds-book-book c = omega (arith, room _ _ _ c.loop-book.invariant _ c.scan-q.ensures c.if-s-q.false c.if-s-q-eq10.false _ _ _ c.in_ok-z.ensures)

pub set_name-requires : goal.set_name-requires
set_name-requires c = room _ _ _ c.loop-book.invariant _ c.scan-q.ensures c.if-s-q.false c.if-s-q-eq10.false _ _ _ c.in_ok-z.ensures

pub loop-book-smaller : goal.loop-book-smaller
loop-book-smaller c = omega (arith, ahead _ _ _ c.scan-q.ensures, forth _ _ _ c.loop-book.invariant _ c.scan-q.ensures c.if-s-q.false c.if-s-q-eq10.false _ _ _ c.in_ok-z.ensures)

pub loop-book-preserved : goal.loop-book-preserved
loop-book-preserved c = rw c.set_name.ensures (assigned _ _ _ c.loop-book.invariant _ c.scan-q.ensures c.if-s-q.false c.if-s-q-eq10.false _ _ _ c.in_ok-z.ensures)

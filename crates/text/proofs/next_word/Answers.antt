-- `text::next_word` meets its contract. The word is what `skip` and `find` answer. Assumes nothing.
use Rattle.std.proofs.Common.{arith, ◌≡◌, length}
use Prim.Native.Nat.{max}
use Rattle.text.proofs.Places.{next_of, none_left}
use Rattle.text.proofs.next_word.Goals as goal

pub returns-then-from-to : goal.returns-then-from-to
returns-then-from-to c = (next_of _ _ _ _ c.skip-from.ensures c.find-to.ensures, c.if-from-to.true)

pub returns-else-from-to : goal.returns-else-from-to
returns-else-from-to c = let line = c.args.line.now in
    let n = next_of line c.args.at _ _ c.skip-from.ensures c.find-to.ensures in
    let e = none_left line c.args.at _ _ c.skip-from.ensures c.find-to.ensures c.if-from-to.false in
    let f : c.find-to.result ≡ max c.args.at (length line) = omega (arith, e, n.order, c.if-from-to.false) in
    rw f at (rw e at n)

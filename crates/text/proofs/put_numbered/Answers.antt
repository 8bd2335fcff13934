-- `text::put_numbered` meets its contract. Assumes nothing.
use native.Mathlib.Omega.{arith}
use borrow.Author.Rules.{rules}
use Rattle.text.proofs.Numbers.{numbered_short}
use Rattle.text.proofs.Putting.{put_then, is_free, not_free, put_fits, put_short, put_free}
use Rattle.text.proofs.put_numbered.Goals as goal

pub returns-then-not-is_free : goal.returns-then-not-is_free
returns-then-not-is_free c = put_short (not_free _ _ c.is_free.ensures c.if-not-is_free.true-raw)

pub returns : goal.returns
returns c = let a = c.args in
    let short = numbered_short a.letter a.x (search rules) in
    let room = is_free _ _ c.is_free.ensures c.if-not-is_free.false-raw in
    let digits = rw c.from.ensures at c.put_decimal.ensures in
    put_fits room (omega (arith, short, digits.bound)) (put_then (omega arith) (put_free (omega arith) c.put-next.ensures) (put_free (omega (arith, short)) digits))

-- `call_in` meets its contract, a law for each return. Assumes nothing.
use Rattle.std.proofs.Common.{arith}
use Rattle.script.proofs.Meanings.{too_long, is_blank, is_note, is_call}
use Rattle.script.proofs.call_in.Goals as goal

pub returns-then-line-gt-LONGEST : goal.returns-then-line-gt-LONGEST
returns-then-line-gt-LONGEST c = too_long c.if-line-gt-LONGEST.true

pub returns-in_default : goal.returns-in_default
returns-in_default c = is_blank c.if-line-gt-LONGEST.false c.in_default.ensures (omega arith)

pub returns-then-line-eq35 : goal.returns-then-line-eq35
returns-then-line-eq35 c = is_note c.if-line-gt-LONGEST.false c.in-Some.ensures.0 c.in-Some.ensures.1 c.if-line-eq35.true

pub returns : goal.returns
returns c = let kept = c.after-words.ensures in
    rw c.unwrap_or.ensures (is_call c.if-line-gt-LONGEST.false c.in-Some.ensures.0 c.in-Some.ensures.1 c.if-line-eq35.false
    c.after-words.result (λ i. (kept.line_kept i).now) kept.at_kept _ c.any_call.ensures)

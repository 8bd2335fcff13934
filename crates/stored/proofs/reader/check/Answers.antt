-- `stored::reader::check` meets its contract. Assumes nothing.
use mathlib.Core.Path.{◌≡◌, ◌∙◌}
use native.Mathlib.Omega.{arith}
use lib.ListN.{get_or}
use Rattle.stored.specs.Reading.{body_answer}
use Rattle.stored.proofs.Accept.{too_short, mark_is, no_mark, head_is}
use Rattle.stored.proofs.reader.check.Goals as goal

pub returns-then-bytes-lt5 : goal.returns-then-bytes-lt5
returns-then-bytes-lt5 c = let a = c.args in too_short a.only a.bytes.now c.if-bytes-lt5.true

pub returns-then-not-starts_with : goal.returns-then-not-starts_with
returns-then-not-starts_with c = let a = c.args in
    no_mark a.only a.bytes.now c.if-bytes-lt5.false (mark_is a.bytes.now _ _ (omega arith) c.starts_with.ensures.value c.if-not-starts_with.true)

pub returns : goal.returns
returns c = let a = c.args in
    let s = a.bytes.now in
    let e : body_answer a.only s c.from.result c.from-2.result c.from-3.result ≡ body_answer a.only s (get_or s 2 0) (get_or s 3 0) (get_or s 4 0) =
    λ i. body_answer a.only s (c.from.ensures i) (c.from-2.ensures i) (c.from-3.ensures i) in
    c.check_body.ensures ∙ e ∙ head_is a.only s c.if-bytes-lt5.false (mark_is s _ _ (omega arith) c.starts_with.ensures.value c.if-not-starts_with.false)

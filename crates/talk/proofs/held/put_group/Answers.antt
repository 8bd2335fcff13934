-- `talk::held::put_group` meets its contract. Assumes nothing.
use native.Mathlib.Omega.{arith}
use Rattle.text.proofs.Putting.{put_then, put_free}
use Rattle.talk.specs.Texts.{group_text}
use Rattle.talk.proofs.held.put_group.Goals as goal

pub returns-clause-put : goal.returns-clause-put
unfolding group_text
returns-clause-put c = let two = put_then (omega arith) (put_free (omega arith) c.put_numbered-named.ensures) (put_free (omega arith) c.put_numbered-deep.ensures) in
    let three = put_then (omega arith) two (put_free (omega arith) c.put_numbered-anded.ensures) in
    let four = put_then (omega arith) three (put_free (omega arith) c.put-start.ensures) in
    put_then (omega arith) four c.put_values.ensures.put

-- `equations::answer` meets its contract. Assumes nothing.
use borrow.Author.Rules.{rules}
use Rattle.text.proofs.Putting.{put_as, put_free}
use Rattle.equations.proofs.Answering.{too_long, is_read}
use Rattle.equations.proofs.answer.Goals as goal

pub returns-then-file-gt-LONGEST-clause-put : goal.returns-then-file-gt-LONGEST-clause-put
returns-then-file-gt-LONGEST-clause-put c = put_as (too_long c.args.file.now c.if-file-gt-LONGEST.true) (put_free (search rules) c.put.ensures)

pub returns-clause-put : goal.returns-clause-put
returns-clause-put c = put_as (is_read c.args.file.now _ _ _ c.if-file-gt-LONGEST.false (search rules) c.equations-drawn.ensures) c.put_drawn.ensures.put

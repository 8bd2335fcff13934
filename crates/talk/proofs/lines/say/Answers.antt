-- `talk::lines::say` meets its contract. Assumes nothing.
use native.Mathlib.Omega.{arith}
use borrow.Author.Rules.{rules}
use Rattle.text.proofs.Putting.{put_free}
use Rattle.talk.proofs.Spoken.{said}
use Rattle.talk.proofs.lines.say.Goals as goal

pub returns : goal.returns
returns c = said (search rules) (put_free (omega arith) c.put.ensures)

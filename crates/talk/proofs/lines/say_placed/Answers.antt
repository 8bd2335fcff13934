-- `talk::lines::say_placed` meets its contract. Assumes nothing.
use native.Mathlib.Omega.{arith}
use borrow.Author.Rules.{rules}
use Rattle.text.proofs.Putting.{put_then, put_free}
use Rattle.talk.proofs.Spoken.{said}
use Rattle.talk.proofs.lines.say_placed.Goals as goal

pub returns : goal.returns
returns c = said (search rules) (put_then (omega arith) (put_free (omega arith) c.put_placed-end.ensures) (put_free (omega arith) c.put.ensures))

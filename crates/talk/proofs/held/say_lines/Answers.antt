-- `talk::held::say_lines` meets its contract. Assumes nothing.
use native.Mathlib.Omega.{arith}
use borrow.Author.Rules.{rules}
use Rattle.text.proofs.Putting.{put_then, put_free}
use Rattle.talk.specs.Saying.{lines_held_in}
use Rattle.talk.proofs.Spoken.{said}
use Rattle.talk.proofs.held.say_lines.Goals as goal

pub returns : goal.returns
unfolding lines_held_in
returns c = said (search rules) (put_then (omega arith) (put_then (omega arith) (put_free (omega arith) c.put_labelled-counted.ensures) c.put_groups-end.ensures.put) (put_free (omega arith) c.put.ensures))

-- `talk::lines::say_listed` meets its contract. Assumes nothing.
use native.Mathlib.Omega.{arith}
use Rattle.text.proofs.Putting.{put_then, put_free}
use Rattle.talk.specs.Texts.{listed_text}
use Rattle.talk.proofs.Spoken.{said}
use Rattle.talk.proofs.lines.say_listed.Goals as goal

pub returns : goal.returns
unfolding listed_text
returns c = let two = put_then (omega arith) (put_free (omega arith) c.put_labelled-named.ensures) (put_free (omega arith) c.put_numbers-listed.ensures) in
    said (omega arith) (put_then (omega arith) two (put_free (omega arith) c.put.ensures))

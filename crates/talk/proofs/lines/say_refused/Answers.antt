-- `talk::lines::say_refused` meets its contract. Assumes nothing.
use borrow.Author.Rules.{rules}
use Rattle.text.proofs.Putting.{put_free}
use Rattle.talk.proofs.Spoken.{said}
use Rattle.talk.proofs.lines.say_refused.Goals as goal

pub returns : goal.returns
returns c = said (search rules) (put_free (search rules) c.put_refused.ensures)

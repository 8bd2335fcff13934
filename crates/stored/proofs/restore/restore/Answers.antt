-- `stored::restore::restore` meets its contract, from those of `read` and `write`. Assumes nothing.
use borrow.Author.Rules.{rules}
use Rattle.stored.proofs.Restoring.{restored_answer, restored_bytes}
use Rattle.stored.proofs.restore.restore.Goals as goal

pub returns-clause-answer : goal.returns-clause-answer
returns-clause-answer c = let a = c.args in
    restored_answer a.only a.bytes.now a.room.now _ _ _ (search rules) c.write.ensures

pub returns-clause-bytes : goal.returns-clause-bytes
returns-clause-bytes c = let a = c.args in
    restored_bytes a.only a.bytes.now a.room.now _ _ _ (search rules) c.write.ensures

-- `stored::reader::read` meets its contract: a refusal is what the check found, and what was found whole is filled in. Assumes nothing.
use mathlib.Core.Path.{◌∙◌, sym}
use Rattle.stored.proofs.Accept.{whole}
use Rattle.stored.proofs.reader.read.Goals as goal

pub fill-requires : goal.fill-requires
fill-requires c = let a = c.args in whole a.only a.bytes.now (sym c.check.ensures ∙ c.in_ok-check.was)

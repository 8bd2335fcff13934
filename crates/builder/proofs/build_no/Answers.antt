-- `build_no` meets its contract: the number of `build`'s answer. Assumes nothing.
use mathlib.Core.Path.{◌∙◌, ap}
use Rattle.stored.specs.Writing.{writing_code}
use Rattle.builder.proofs.build_no.Goals as goal

pub returns : goal.returns
returns c = let b = c.build.ensures in
    record { answer = c.writing_code.ensures ∙ ap writing_code b.answer; bytes = b.bytes }

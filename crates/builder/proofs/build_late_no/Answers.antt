-- `build_late_no` meets its contract: the number of `build_late`'s answer. Assumes nothing.
use mathlib.Core.Path.{◌∙◌, ap}
use Rattle.stored.specs.Writing.{writing_code}
use Rattle.builder.proofs.build_late_no.Goals as goal

pub returns : goal.returns
returns c = let b = c.build_late.ensures in
    record { answer = c.writing_code.ensures ∙ ap writing_code b.answer; bytes = b.bytes }

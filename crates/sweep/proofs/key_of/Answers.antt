-- `sweep::key_of` meets its contract. Assumes nothing.
use mathlib.Core.Path.{ap, ap₂, ◌∙◌}
use Prim.Native.Nat.{min, max}
use Rattle.sweep.specs.Parts.{keyed, key_of}
use Rattle.sweep.proofs.key_of.Goals as goal

pub returns : goal.returns
unfolding key_of
returns c = c.digits.ensures ∙ ap₂ (keyed c.args.kind) (c.min.ensures ∙ ap (min c.args.a) c.second_read-second.ensures) (c.max.ensures ∙ ap (max c.args.a) c.second_read-second.ensures)

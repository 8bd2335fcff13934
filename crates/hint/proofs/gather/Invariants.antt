use mathlib.Core.Path.{◌≡◌}
use Prim.Native.Nat.{◌≤◌}
use Rattle.hint.specs.declared.Base.{Base}
use Rattle.hint.specs.Parts.{gathered}
use Rattle.hint.proofs.gather.Given as goal

abbrev pub invariant-loop-i : goal.invariant-loop-i
invariant-loop-i l = (l.taken ≤ l.i)
    × ◌≡◌ {A = Base} (record { masks = l.base_masks; depths = l.base_depths; lines = l.lines; count = l.taken }) (gathered l.masks l.depths l.i)

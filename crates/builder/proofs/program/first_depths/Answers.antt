-- `first_depths` meets its contract: what was passed stands first, and 0 past it.
use mathlib.Core.List.{List, ◌++◌}
use mathlib.Core.Path.{◌≡◌, ap₂}
use Prim.Native.Nat.{ℕ}
use lib.ListN.{length, drop, replicate}
use Rattle.std.proofs.lemmas.List.{drop-replicate}
use Rattle.circuit.specs.Lines.{padded}
use Rattle.circuit.specs.Sizes.{most_lines}
use Rattle.builder.proofs.program.first_depths.Goals as goal

copied : (ar new : List ℕ) → new ≡ ar → new ++ drop (length ar) (replicate most_lines 0) ≡ padded most_lines 0 ar
copied ar new e = ap₂ (λ (x y : List ℕ). x ++ y) e (drop-replicate (length ar) most_lines 0)

pub returns : goal.returns
returns c = copied c.args.arrivals.now c.copy_from_slice.new.self c.copy_from_slice.ensures.after

-- `target_bytes`: the bytes are copied to the front, and past them are the zeros. Assumes nothing.
use mathlib.Core.Path.{◌∙◌, ap}
use mathlib.Core.List.{List, ◌++◌}
use Prim.Native.Nat.{ℕ}
use lib.ListN.{length, drop, replicate}
use Rattle.std.proofs.lemmas.List.{drop-replicate}
use Rattle.circuit.specs.Sizes.{most_values}
use Rattle.bench.proofs.opening.target_bytes.Goals as goal

pub returns : goal.returns
returns c = let bytes = c.args.bytes.now in
    ap (λ (l : List ℕ). l ++ drop (length bytes) (replicate most_values 0)) c.copy_from_slice.ensures.after
    ∙ ap (λ (l : List ℕ). bytes ++ l) (drop-replicate (length bytes) most_values 0)

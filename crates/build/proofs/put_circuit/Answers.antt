-- `build::put_circuit` meets its contract. Assumes nothing.
use mathlib.Core.Path.{ap, ◌∙◌}
use mathlib.Core.List.{◌++◌}
use Prim.Native.Nat.{ℕ}
use native.Mathlib.Omega.{arith}
use Rattle.text.proofs.Putting.{put_then, put_as, put_free}
use Rattle.listing.specs.Printed.{counts_text, new_line, lines_in}
use Rattle.listing.proofs.Listed.{listing_of}
use Rattle.build.proofs.put_circuit.Goals as goal

pub returns-clause-put : goal.returns-clause-put
returns-clause-put c = let x = c.args.c in
    let counts = put_free (omega arith) c.put_counts-counted.ensures in
    let e = ap (λ (y : ℕ). counts_text x.n x.m x.g y ++ new_line ++ lines_in x) c.depth_of-depth.ensures ∙ listing_of x c.requires in
    put_as e (put_then (omega arith) (put_then (omega arith) counts (put_free (omega arith) c.put-start.ensures)) (put_free (omega arith) c.put_lines.ensures))

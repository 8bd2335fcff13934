-- `stored::reader::out_lines` meets its contract. Assumes nothing.
use native.Mathlib.Omega.{arith}
use mathlib.Core.Path.{ap, ◌∙◌}
use mathlib.Core.List.{List}
use Prim.Native.Nat.{ℕ, ◌+◌, ◌*◌}
use lib.ListN.{drop, set}
use Rattle.circuit.specs.Sizes.{most_outputs}
use Rattle.stored.specs.Stored.{out_in}
use Rattle.stored.proofs.Records.{byte_at, records_put, records_none}
use Rattle.stored.proofs.reader.out_lines.Goals as goal

pub loop-j-init : goal.loop-j-init
loop-j-init c = let a = c.args in records_none out_in 3 (drop a.from a.bytes.now) most_outputs 0

pub loop-j-preserved : goal.loop-j-preserved
loop-j-preserved c = let a = c.args in
    let s = a.bytes.now in
    let j = c.loop-j.j in
    let v = c.from.result in
    ap (λ (l : List ℕ). set l j v) c.loop-j.invariant
    ∙ records_put out_in 3 s a.from j most_outputs (a.from + 3 * j) v 0 (omega arith) (omega arith) (c.from.ensures ∙ byte_at s (a.from + 3 * j) 2)

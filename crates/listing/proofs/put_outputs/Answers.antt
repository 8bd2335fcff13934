-- `listing::put_outputs` meets its contract. The invariant: the lines so far are put. Assumes nothing.
use mathlib.Core.Path.{ap}
use Prim.Native.Nat.{ℕ}
use native.Mathlib.Omega.{arith}
use borrow.Author.Rules.{rules}
use Rattle.circuit.specs.Structs.{out_of}
use Rattle.text.proofs.Putting.{put-none, put_then, put_as}
use Rattle.listing.specs.Printed.{output_line, lines_to}
use Rattle.listing.proofs.Listed.{lines_next}
use Rattle.listing.proofs.put_outputs.Goals as goal

pub loop-j-init : goal.loop-j-init
unfolding lines_to
loop-j-init c = record { so_far = search rules; put = put-none c.args.room.now c.args.at }

pub loop-j-preserved : goal.loop-j-preserved
loop-j-preserved c = let t = c.args.c.now in
    let line = ap (output_line t.n c.loop-j.j) c.line_index.ensures.0 in
    record {
      so_far = omega (arith, c.put_output-next.ensures.upper_bound);
      put =
          put_as (lines_next (λ (j : ℕ). output_line t.n j (out_of t j)) c.loop-j.j)
          (put_then (omega arith) c.loop-j.invariant.put (put_as line c.put_output-next.ensures.put));
    }

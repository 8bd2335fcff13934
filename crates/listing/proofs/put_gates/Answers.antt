-- `listing::put_gates` meets its contract. The invariant: the lines so far are put. Assumes nothing.
use mathlib.Core.Path.{ap₂}
use Prim.Native.Nat.{ℕ}
use native.Mathlib.Omega.{arith}
use borrow.Author.Rules.{rules}
use Rattle.circuit.specs.Lines.{gate}
use Rattle.circuit.specs.Structs.{gate_of}
use Rattle.text.proofs.Putting.{put-none, put_then, put_as}
use Rattle.listing.specs.Printed.{gate_line, lines_to}
use Rattle.listing.proofs.Listed.{lines_next}
use Rattle.listing.proofs.put_gates.Goals as goal

pub loop-k-init : goal.loop-k-init
unfolding lines_to
loop-k-init c = record { so_far = search rules; put = put-none c.args.room.now c.args.at }

pub loop-k-preserved : goal.loop-k-preserved
loop-k-preserved c = let t = c.args.c.now in
    let k = c.loop-k.k in
    let line = ap₂ (λ (x y : ℕ). gate_line t.n k (gate (gate_of t k).kind x y)) c.line_index.ensures.0 c.line_index-in-loop-k.ensures.0 in
    record {
      so_far = omega (arith, c.put_gate-next.ensures.upper_bound);
      put = put_as (lines_next (λ (k : ℕ). gate_line t.n k (gate_of t k)) k) (put_then (omega arith) c.loop-k.invariant.put (put_as line c.put_gate-next.ensures.put));
    }

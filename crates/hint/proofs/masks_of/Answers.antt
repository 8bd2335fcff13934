-- `hint::masks_of` meets its contract. The invariant: the array holds the masks so far. Assumes nothing.
use native.Mathlib.Omega.{arith}
use Rattle.hint.proofs.Summing.{summed_start, summed_next, summed_done}
use Rattle.hint.proofs.masks_of.Goals as goal

pub loop-k-init : goal.loop-k-init
loop-k-init c = summed_start c.args.b.now _ c.input_masks-masks.ensures

pub loop-k-preserved : goal.loop-k-preserved
loop-k-preserved c = summed_next c.args.b.now c.loop-k.k c.loop-k.masks (omega arith) c.loop-k.invariant c.line_index-first.result c.line_index-second.result
    c.read_sum.result c.line_index-first.ensures.0 c.line_index-second.ensures.0 c.read_sum.ensures

pub returns : goal.returns
returns c = summed_done c.args.b.now c.loop-k.k _ (omega arith) c.loop-k.invariant

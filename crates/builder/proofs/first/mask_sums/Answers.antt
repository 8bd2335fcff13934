-- `mask_sums` meets its contract: an input more at each turn.
use Rattle.builder.proofs.MaskSums.{sums_none}
use Rattle.builder.proofs.first.mask_sums.Goals as goal

pub loop-i-init : goal.loop-i-init
loop-i-init c = sums_none _

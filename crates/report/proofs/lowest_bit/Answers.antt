-- `report::lowest_bit`: as many bits stand below the lowest that is set. Assumes nothing.
use Rattle.report.proofs.Blocks.{trailing-lowest}
use Rattle.report.proofs.lowest_bit.Goals as goal

pub returns : goal.returns
returns c = trailing-lowest c.args.word c.ranges.word.fits

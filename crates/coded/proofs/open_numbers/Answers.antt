-- `coded::open_numbers` meets its contract. Assumes nothing.
use Rattle.coded.specs.Coded.{open_coded}
use Rattle.coded.proofs.open_numbers.Goals as goal

pub returns : goal.returns
unfolding open_coded
returns c = let n = c.answer_no.ensures in
    λ i. record { bench = c.args.done.bench; refusal = n i }

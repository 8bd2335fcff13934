-- `bench::opening::empty` meets its contract. Assumes nothing.
use mathlib.Core.Path.{refl}
use Rattle.bench.specs.Held.{empty_bench}
use Rattle.bench.proofs.opening.empty.Goals as goal

pub returns : goal.returns
unfolding empty_bench
returns c = refl

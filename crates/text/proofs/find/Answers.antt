-- `text::find` meets its contract. Assumes nothing.
use Rattle.std.proofs.Common.{rules}
use Prim.Native.Nat.{ℕ}
use mathlib.Core.Bool.{not}
use lib.Dec.{eqb}
use Rattle.text.proofs.find.Goals as goal

pub returns : goal.returns
returns c = c.place_past.ensures (λ (x : ℕ). not (eqb x c.args.c)) (λ x b h q. search rules)

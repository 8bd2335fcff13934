-- `equations::put_bytes` meets its contract. Assumes nothing.
use mathlib.Core.Path.{ap}
use mathlib.Core.List.{◌++◌}
use Prim.Native.Nat.{ℕ}
use native.Mathlib.Omega.{arith}
use lib.ListN.{take, length-take}
use Rattle.text.specs.Numbers.{hex_text}
use Rattle.text.proofs.Putting.{put_then, put_as, put_free}
use Rattle.listing.specs.Printed.{new_line}
use Rattle.equations.proofs.put_bytes.Goals as goal

pub returns-clause-put : goal.returns-clause-put
returns-clause-put c = let all = put_then (omega arith) (put_free (omega (arith, length-take c.min-shown.result c.args.room.now)) c.put_hex-end.ensures) (put_free (omega (arith, length-take c.min-shown.result c.args.room.now)) c.put.ensures) in
    put_as (ap (λ (k : ℕ). hex_text (take k c.args.room.now) ++ new_line) c.min-shown.ensures) all

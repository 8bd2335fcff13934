-- `listing::put_lines` meets its contract. Assumes nothing.
use mathlib.Core.Path.{◌≡◌, sym, ◌∙◌}
use mathlib.Core.Bool.{true}
use Prim.Native.Nat.{◌+◌, ◌≤◌}
use native.Mathlib.Omega.{arith}
use borrow.Author.Tests.{not-true, not-false}
use lib.ListN.{length}
use Rattle.circuit.specs.Rules.{shaped}
use Rattle.circuit.proofs.Shapes.{Shaped, shape_is}
use Rattle.text.proofs.Putting.{put-none, put_then, put_as, is_free, not_free, put_fits, put_short}
use Rattle.listing.specs.Printed.{lines_size}
use Rattle.listing.proofs.Listed.{all_lines, no_lines}
use Rattle.listing.proofs.put_lines.Goals as goal
use Rattle.listing.proofs.put_lines.Goals.{Else-not-is_free, Else-not-is_shape}

pub returns-then-not-is_free : goal.returns-then-not-is_free
returns-then-not-is_free c = put_short (not_free _ _ c.is_free.ensures c.if-not-is_free.true-raw)

-- there is room
in-room : (c : Else-not-is_free) → let a = c.args in a.at + lines_size ≤ length a.room.now
in-room c = is_free _ _ c.is_free.ensures c.if-not-is_free.false-raw

pub returns-then-not-is_shape : goal.returns-then-not-is_shape
returns-then-not-is_shape c = let k = c.before in
    let a = k.args in
    let none = no_lines a.c (sym c.is_shape.ensures ∙ not-true _ c.if-not-is_shape.true-raw) in
    put_fits (in-room (goal.at.returns-then-not-is_shape c).Else-not-is_free) (omega arith) (put_as none (put-none a.room.now a.at))

-- the circuit is in range
shape : (c : Else-not-is_shape) → let a = c.args.c in shaped a.n a.m a.g ≡ true
shape c = sym c.is_shape.ensures ∙ not-false _ c.if-not-is_shape.false-raw

-- and so are its counts
in-range : (c : Else-not-is_shape) → let a = c.args.c in Shaped a.n a.m a.g
in-range c = shape_is _ _ _ (shape c)

pub put_gates-next-requires : goal.put_gates-next-requires
put_gates-next-requires c = omega (arith, in-room (goal.at.put_gates-next-requires c).Else-not-is_free, in-range (goal.at.put_gates-next-requires c).Else-not-is_shape)

pub put_outputs-requires : goal.put_outputs-requires
put_outputs-requires c = omega (arith, in-room (goal.at.put_outputs-requires c).Else-not-is_free, in-range (goal.at.put_outputs-requires c).Else-not-is_shape)

pub returns : goal.returns
returns c = let room = in-room (goal.at.returns c).Else-not-is_free in
    let counts = in-range (goal.at.returns c).Else-not-is_shape in
    put_fits room (omega arith) (put_as (all_lines _ (shape (goal.at.returns c).Else-not-is_shape)) (put_then (omega arith) c.put_gates-next.ensures.put c.put_outputs.ensures.put))

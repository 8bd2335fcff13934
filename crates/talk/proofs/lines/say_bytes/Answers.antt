-- `talk::lines::say_bytes` meets its contract. Assumes nothing.
use mathlib.Core.Path.{◌≡◌, ap}
use Prim.Native.Nat.{ℕ}
use native.Mathlib.Omega.{arith}
use lib.ListN.{length, take, length-take}
use Rattle.text.proofs.Putting.{put_then, put_free}
use Rattle.talk.specs.Texts.{hex_line}
use Rattle.talk.proofs.Spoken.{said, said_as}
use Rattle.talk.proofs.lines.say_bytes.Goals as goal
use Rattle.talk.proofs.lines.say_bytes.Goals.{After-min-shown}

-- how many bytes are said
size : (m : After-min-shown) → m.min-shown.result ≡ length (take m.min-shown.result m.args.room.now)
size m = omega (arith, m.min-shown.ensures, length-take m.min-shown.result m.args.room.now)

pub slice_bounds-put_hex-end-2 : goal.slice_bounds-put_hex-end-2
slice_bounds-put_hex-end-2 c = omega (arith, size (goal.at.slice_bounds-put_hex-end-2 c).After-min-shown)

pub returns : goal.returns
unfolding hex_line
returns c = let a = c.args in
    let few = size (goal.at.returns c).After-min-shown in
    let two = put_then (omega arith) (put_free (omega arith) c.put_labelled-counted.ensures) (put_free (omega arith) c.put-start.ensures) in
    let three = put_then (omega arith) two (put_free (omega arith) c.put_hex-end.ensures) in
    let all = put_then (omega arith) three (put_free (omega arith) c.put.ensures) in
    said_as (ap (λ (k : ℕ). hex_line a.name.now a.count (take k a.room.now)) c.min-shown.ensures) (said (omega arith) all)

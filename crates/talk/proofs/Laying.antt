-- A word of a line as bytes, first in a room. Assumes nothing.
use mathlib.Core.Path.{◌≡◌, ap, ◌∙◌}
use mathlib.Core.List.{List}
use Prim.Native.Nat.{ℕ, ◌-◌, ◌/◌, ◌≤◌}
use native.Mathlib.Omega.{arith}
use lib.ListN.{length, drop, length-drop}
use lib.Seq.{length-take-le}
use Rattle.text.specs.Numbers.{bytes_said}
use Rattle.text.specs.Putting.{Put, PutFree}
use Rattle.text.proofs.Numbers.{bytes_length, bytes-said}
use Rattle.text.proofs.Putting.{put_as, put_free}
use Rattle.script.specs.declared.Part.{Part}
use Rattle.script.specs.Order.{digits_in, bytes_of}
use Rattle.script.specs.Placed.{HexPart}

-- how many digits a part has
pub digits_long : (line : List ℕ) (p : Part) → HexPart line p → length (digits_in line p) ≡ p.to - p.from
digits_long line p h = length-take-le (p.to - p.from) (drop p.from line) (omega (arith, length-drop p.from line, h.order, h.inside))

-- how many bytes they say
pub bytes_long : (line : List ℕ) (p : Part) → HexPart line p → length (bytes_of line p) ≡ (p.to - p.from) / 2
bytes_long line p h = bytes_length (digits_in line p) ∙ ap (λ (n : ℕ). n / 2) (digits_long line p h)

-- where there is room for them they are put first
pub bytes_put : (line : List ℕ) (p : Part) {before after : List ℕ} {r : ℕ} → HexPart line p → (p.to - p.from) / 2 ≤ length before
    → PutFree before 0 (length (digits_in line p) / 2) (bytes_said (digits_in line p)) after r → Put before 0 (bytes_of line p) after r
bytes_put line p h l u = put_as (bytes-said (digits_in line p) h.digits) (put_free (omega (arith, digits_long line p h)) u)

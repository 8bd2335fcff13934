-- Where the parts of a call stand: within the line, one after the other, each of whole pairs of digits.
use Rattle.std.specs.Prelude.{◌≡◌, true, List, ℕ, zero, suc, ◌-◌, ◌%◌, ◌≤◌, length, drop}
use Rattle.text.specs.Places.{tail_words}
use Rattle.text.specs.Numbers.{all_hex}
use Rattle.script.specs.declared.Part.{Part}
use Rattle.script.specs.declared.Call.{Call}
use Rattle.script.specs.declared.Call.TheVariants.{Silent, Unreadable, New, OpenMatrix, OpenTable, Report, Gate, Output, Entry, Limits, Sweep, Append, Store, Held, Show, Hint, Build, Late, Distance, Equations}
use Rattle.script.specs.Order.{Order, digits_in, order_of}

-- a part of pairs of hexadecimal digits, within a line that is not too long
pub record HexPart (line : List ℕ) (p : Part) : Type 0 where
  pub order : p.from ≤ p.to
  pub inside : p.to ≤ length line
  pub short : p.to ≤ 65535
  pub pairs : (p.to - p.from) % 2 ≡ 0
  pub digits : all_hex (digits_in line p) ≡ true

-- two such parts, the second after the first
pub record HexParts (line : List ℕ) (p q : Part) : Type 0 where
  pub first : HexPart line p
  pub second : HexPart line q
  pub apart : p.to ≤ q.from

-- three such parts, each after the one before
pub record HexThree (line : List ℕ) (p q r : Part) : Type 0 where
  pub two : HexParts line p q
  pub third : HexPart line r
  pub apart : q.to ≤ r.from

-- the parts of a call
abbrev pub Placed : List ℕ → Call → Type 0
Placed line Silent = Unit
Placed line Unreadable = Unit
Placed line New = Unit
Placed line (OpenMatrix o) = HexParts line o.bytes o.target
Placed line (OpenTable o) = HexParts line o.bytes o.target
Placed line Report = Unit
Placed line (Gate e) = Unit
Placed line (Output e) = Unit
Placed line (Entry e) = Unit
Placed line (Limits e) = Unit
Placed line Sweep = Unit
Placed line (Append e) = Unit
Placed line (Store room) = Unit
Placed line Held = Unit
Placed line Show = Unit
Placed line (Hint h) = Unit
Placed line (Build b) = HexPart line b.rows
Placed line (Late b) = HexThree line b.arrivals b.rows b.limits
Placed line (Distance d) = HexParts line d.masks d.depths
Placed line (Equations q) = HexPart line q.file

-- what follows the first k words of a line
abbrev pub after_words : ℕ → List ℕ → List ℕ
after_words zero s = s
after_words (suc k) s = after_words k (tail_words s)

-- which word of the line each part of a call is, by what follows it
abbrev pub Follows : List ℕ → Call → Type 0
Follows line Silent = Unit
Follows line Unreadable = Unit
Follows line New = Unit
Follows line (OpenMatrix o) = (drop o.bytes.to line ≡ after_words 2 line) × (drop o.target.to line ≡ after_words 4 line)
Follows line (OpenTable o) = (drop o.bytes.to line ≡ after_words 2 line) × (drop o.target.to line ≡ after_words 4 line)
Follows line Report = Unit
Follows line (Gate e) = Unit
Follows line (Output e) = Unit
Follows line (Entry e) = Unit
Follows line (Limits e) = Unit
Follows line Sweep = Unit
Follows line (Append e) = Unit
Follows line (Store room) = Unit
Follows line Held = Unit
Follows line Show = Unit
Follows line (Hint h) = Unit
Follows line (Build b) = drop b.rows.to line ≡ after_words 3 line
Follows line (Late b) = (drop b.arrivals.to line ≡ after_words 3 line) × ((drop b.rows.to line ≡ after_words 4 line) × (drop b.limits.to line ≡ after_words 5 line))
Follows line (Distance d) = (drop d.masks.to line ≡ after_words 3 line) × (drop d.depths.to line ≡ after_words 4 line)
Follows line (Equations q) = drop q.file.to line ≡ after_words 2 line

-- a call means an order over its line, and its parts stand where they should
pub record Means (line : List ℕ) (r : Call) (o : Order) : Type 0 where
  pub meaning : order_of line r ≡ o
  pub places : Placed line r
  pub follows : Follows line r

-- Laws of the names of lines: how a name goes by its number. Assumes nothing.
use mathlib.Core.Path.{◌≡◌}
use Prim.Native.Nat.{ℕ, ◌-◌, ◌≤◌, ◌<◌}
use borrow.Author.Tests.{lt-ltb, le-ltb}
use Rattle.text.specs.Numbers.{numbered}
use Rattle.listing.specs.Printed.{line_name}

-- the name of an input
pub input_name : (n line : ℕ) → line < n → numbered 120 line ≡ line_name n line
unfolding line_name
input_name n line h = rw (lt-ltb line n h)

-- the name of a gate's line
pub gate_name : (n line : ℕ) → n ≤ line → numbered 116 (line - n) ≡ line_name n line
unfolding line_name
gate_name n line h = rw (le-ltb line n h)

use mathlib.Core.Path.{◌≡◌}
use mathlib.Core.List.{List}
use Prim.Native.Nat.{ℕ, ◌-◌, ◌+◌}
use lib.ListN.{get_or}
use Rattle.circuit.specs.Gate.{bit}
use Rattle.targets.specs.Wanted.{packed}
use Rattle.targets.proofs.wanted.column_word.Given as goal

-- bit j of the entries from one on
abbrev pub bits : List ℕ → ℕ → ℕ → ℕ → ℕ
bits table from j b = bit j (get_or table (from + b) 0)

-- the bits from b on, in a word
abbrev pub tail : List ℕ → ℕ → ℕ → ℕ → ℕ
tail table from j b = packed (λ (i : ℕ). bits table from j (b + i)) (64 - b)

abbrev pub invariant-loop-b : goal.invariant-loop-b
invariant-loop-b l = l.w ≡ tail l.table l.from l.j l.b

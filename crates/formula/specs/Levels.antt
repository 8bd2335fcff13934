-- The reader of a formula: its levels, where nm reads a name at a place.
use Rattle.std.specs.Prelude.{cond, List, ℕ, zero, suc, ◌+◌, ◌-◌, length}
use Rattle.formula.specs.Text.{seen, skip_of, tildes_of, wrap_with}
use Rattle.formula.specs.Tree.{Op, And, Xor, Or, sign_of, Res, got, bad, unk, join_tree, not_tree}

-- a closing bracket after what was found, and the spaces after it
unfoldable pub close_tree : List ℕ → Res → Res
close_tree s (got q t) = cond (seen s q 41) (got (skip_of s (q + 1)) t) (bad q)
close_tree s (bad q) = bad q
close_tree s (unk q) = unk q

-- operands that o reads, joined by the operator op, grouped from the left: f more at most
unfoldable pub chain : List ℕ → Op → (ℕ → Res) → ℕ → Res → Res
chain s op o zero r = r
chain s op o (suc f) (got p t) = let r = chain s op o f (join_tree op t (o (p + 1))) in cond (seen s p (sign_of op)) r (got p t)
chain s op o (suc f) (bad q) = bad q
chain s op o (suc f) (unk q) = unk q

-- a level: an operand, then op and an operand as often as op stands there
unfoldable pub level : List ℕ → Op → (ℕ → Res) → ℕ → Res
level s op o p = chain s op o (length s) (o p)

-- a name, or what b reads from an opening bracket on, after spaces
abbrev pub operand : List ℕ → (ℕ → Res) → (ℕ → Res) → ℕ → Res
operand s nm b p = let q = skip_of s p in cond (seen s q 40) (b q) (nm q)

-- any number of ~ before an operand
abbrev pub inverted : List ℕ → (ℕ → Res) → (ℕ → Res) → ℕ → Res
inverted s nm b p = wrap_with not_tree s (tildes_of s p - p) p (operand s nm b (tildes_of s p))

-- a formula: ~ binds tightest, then & ^ |
abbrev pub whole : List ℕ → (ℕ → Res) → (ℕ → Res) → ℕ → Res
whole s nm b p = level s Or (level s Xor (level s And (inverted s nm b))) p

-- a bracketed formula from its bracket on, d levels of brackets being left
unfoldable pub bracket : List ℕ → (ℕ → Res) → ℕ → ℕ → Res
bracket s nm zero p = bad p
bracket s nm (suc d) p = close_tree s (whole s nm (bracket s nm d) (p + 1))

-- the five levels, tightest first: a name or a bracketed formula,
unfoldable pub paren_of : List ℕ → (ℕ → Res) → ℕ → ℕ → Res
paren_of s nm d p = operand s nm (bracket s nm d) p

-- ~,
unfoldable pub not_of : List ℕ → (ℕ → Res) → ℕ → ℕ → Res
not_of s nm d p = wrap_with not_tree s (tildes_of s p - p) p (paren_of s nm d (tildes_of s p))

-- &,
abbrev pub and_of : List ℕ → (ℕ → Res) → ℕ → ℕ → Res
and_of s nm d = level s And (not_of s nm d)

-- ^,
abbrev pub xor_of : List ℕ → (ℕ → Res) → ℕ → ℕ → Res
xor_of s nm d = level s Xor (and_of s nm d)

-- and |, which is a whole formula
abbrev pub or_of : List ℕ → (ℕ → Res) → ℕ → ℕ → Res
or_of s nm d = level s Or (xor_of s nm d)

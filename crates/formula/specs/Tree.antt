-- Formulas as trees, and what a level of the reader finds.
use Rattle.std.specs.Prelude.{ℕ}

-- the binary operators & ^ |
pub data Op : Type 0 where
  And Xor Or : Op

-- the byte of an operator
abbrev pub sign_of : Op → ℕ
sign_of And = 38
sign_of Xor = 94
sign_of Or = 124

-- the number of the gate kind that an operator is
abbrev pub kind_no : Op → ℕ
kind_no And = 2
kind_no Xor = 0
kind_no Or = 4

-- a formula. A leaf is a name, by a number: in the grammar the place where the name stands, in the reader the name's line
pub data Tree : Type 0 where
  leaf : ℕ → Tree
  neg : Tree → Tree
  bin : Op → Tree → Tree → Tree

-- where the text goes on and the formula; or the place of bad text; or the last byte of a name that is not known
pub data Res : Type 0 where
  got : ℕ → Tree → Res
  bad : ℕ → Res
  unk : ℕ → Res

-- an operator over a formula and what was found after it; a refusal stays
abbrev pub join_tree : Op → Tree → Res → Res
join_tree o t (got q u) = got q (bin o t u)
join_tree o t (bad q) = bad q
join_tree o t (unk q) = unk q

-- ~ before what was found; a refusal stays
abbrev pub not_tree : Res → Res
not_tree (got q t) = got q (neg t)
not_tree (bad q) = bad q
not_tree (unk q) = unk q

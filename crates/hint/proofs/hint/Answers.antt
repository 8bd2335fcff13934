-- `hint::hint` meets its contract, on any bench. Assumes nothing.
use borrow.Author.Tests.{ltb-true}
use native.Mathlib.Omega.{arith}
use mathlib.Core.Path.{◌≡◌, ap, ◌∙◌, sym}
use mathlib.Core.Bool.{true}
use Prim.Native.Nat.{ℕ}
use Rattle.circuit.proofs.Shapes.{Shaped, both}
use Rattle.bench.specs.Parts.{open_on}
use Rattle.bench.proofs.Stood.{standing-shaped}
use Rattle.hint.specs.Parts.{is_row, hint_on}
use Rattle.hint.proofs.OnBench.{hint_row, hint_no-row, hint_nothing}
use Rattle.hint.proofs.hint.Goals as goal
use Rattle.hint.proofs.hint.Goals.{Else-not-is_row, Else-not-is_standing}

-- something is open
opened : (c : Else-not-is_standing) → open_on c.args.bench ≡ true
opened c = sym c.is_standing.ensures ∙ c.if-not-is_standing.false

-- so its numbers are in range
ok : (c : Else-not-is_standing) → let b = c.args.bench in Shaped b.n b.m b.g
ok c = let b = c.args.bench in standing-shaped b.is_open b.n b.m b.g (opened c)

-- and the row is there
row : (c : Else-not-is_row) → is_row c.args.bench.is_matrix c.args.j c.args.bench.m ≡ true
row c = sym c.is_row.ensures ∙ c.if-not-is_row.false

pub returns-then-not-is_standing : goal.returns-then-not-is_standing
returns-then-not-is_standing c = hint_nothing c.args.bench c.args.j c.args.d (sym c.is_standing.ensures ∙ c.if-not-is_standing.true)

pub returns-then-not-is_row : goal.returns-then-not-is_row
returns-then-not-is_row c =
    hint_no-row c.args.bench c.args.j c.args.d (opened (goal.at.returns-then-not-is_row c).Else-not-is_standing) (sym c.is_row.ensures ∙ c.if-not-is_row.true)

pub bounds-bench-j : goal.bounds-bench-j
bounds-bench-j c = let b = c.args.bench in
    omega (arith, (ok (goal.at.bounds-bench-j c).Else-not-is_standing).m_most, ltb-true c.args.j b.m (both b.is_matrix (row (goal.at.bounds-bench-j c).Else-not-is_row)).1)

pub ask-requires : goal.ask-requires
ask-requires c = let o = ok (goal.at.ask-requires c).Else-not-is_standing in (o.n_most, o.g_most)

pub returns : goal.returns
returns c = hint_row c.args.bench c.args.j c.args.d c.ask.result (opened (goal.at.returns c).Else-not-is_standing) (row (goal.at.returns c).Else-not-is_row)
    (c.ask.ensures ∙ ap (λ (t : ℕ). hint_on c.args.bench t c.args.d) c.from.ensures)

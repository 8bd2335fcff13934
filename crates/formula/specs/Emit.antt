-- The gates of a formula: the operands' from left to right, then the operator's.
use Rattle.std.specs.Prelude.{Bool, true, false, cond, List, ℕ, ◌+◌, leb, ltb, set, replicate, Result, Ok, Err}
use Rattle.circuit.specs.Sizes.{most_inputs, most_gates}
use Rattle.formula.specs.Tree.{kind_no, Tree, leaf, neg, bin, Res, got, bad, unk}
use Rattle.formula.specs.declared.Gates.{Gates}
use Rattle.formula.specs.declared.Why.{Why}
use Rattle.formula.specs.declared.Why.TheVariants.{Text, Name}

-- these gates, so many; so many inputs read; what was read last, and what stood before a ~
abbrev pub gates_with : List ℕ → List ℕ → List ℕ → ℕ → ℕ → Bool → Bool → Gates
gates_with ks ls rs count high fold odd = record { kinds = ks; left = ls; right = rs; count = count; high = high; fold = fold; odd = odd }

-- what a level gives: where the text goes on and the formula's line, or why it is refused
abbrev pub Out : Type 0
Out = Result (ℕ × ℕ) Why

-- what a level gives, and the gates after it
pub record Read : Type 0 where
  pub gates : Gates
  pub out : Out

abbrev pub read_at : Gates → Out → Read
read_at g o = record { gates = g; out = o }

-- no gates
unfoldable pub no_gates : Gates
no_gates = gates_with (replicate most_gates 0) (replicate most_gates 0) (replicate most_gates 0) 0 0 false false

-- one gate more, a binary operator's. Past the last that there is room for the count alone goes on, by one
unfoldable pub add_gate : Gates → ℕ → ℕ → ℕ → Gates
add_gate g k a b =
    cond (ltb g.count most_gates)
    (gates_with (set g.kinds g.count k) (set g.left g.count a) (set g.right g.count b) (g.count + 1) g.high true g.odd)
    (gates_with g.kinds g.left g.right (most_gates + 1) g.high true g.odd)

-- the same gates, with what was read last and what stood before a ~ said anew
abbrev pub with_signs : Gates → Bool → Bool → Gates
with_signs g fold odd = gates_with g.kinds g.left g.right g.count g.high fold odd

-- some ~ stood before anything but a binary operator's gate, after one more
abbrev pub odd_after : Bool → Bool → Bool
odd_after fold odd = cond fold odd true

-- a NOT of a line
unfoldable pub invert : Gates → ℕ → Gates
invert g a = with_signs (add_gate g 6 a 0) false (odd_after g.fold g.odd)

-- the line of the next gate, as if there were 8 inputs; 0 where there is no room for it
unfoldable pub new_line : ℕ → ℕ
new_line k = cond (ltb k most_gates) (k + most_inputs) 0

-- a line is read: an input counts towards how many there are
unfoldable pub use_line : Gates → ℕ → Gates
use_line g v =
    cond (ltb v most_inputs)
    (cond (leb g.high v) (gates_with g.kinds g.left g.right g.count (v + 1) false g.odd) (with_signs g false g.odd))
    (with_signs g false g.odd)

-- the gates after a formula's, and the formula's line
abbrev pub worked_at : Gates → ℕ → Gates × ℕ
worked_at g v = (g, v)

-- the same with a NOT more
abbrev pub inverted_once : Gates × ℕ → Gates × ℕ
inverted_once x = (invert x.0 x.1, new_line x.0.count)

-- the same of a formula
abbrev pub worked : Tree → Gates → Gates × ℕ
worked (leaf v) g = (use_line g v, v)
worked (neg t) g = inverted_once (worked t g)
worked (bin o a b) g = let x = worked a g in let y = worked b x.0 in (add_gate y.0 (kind_no o) x.1 y.1, new_line y.0.count)

-- the gates after a formula's
abbrev pub gates_of : Tree → Gates → Gates
gates_of t g = (worked t g).0

-- the formula's line
abbrev pub line_of : Tree → Gates → ℕ
line_of t g = (worked t g).1

-- a refusal, with no gates beside it
abbrev pub failed : Why → Read
failed w = read_at no_gates (Err w)

-- what the code gives where this was found
abbrev pub emitted : Gates → Res → Read
emitted g (got q t) = read_at (gates_of t g) (Ok (q, line_of t g))
emitted g (bad q) = failed (Text q)
emitted g (unk q) = failed (Name q)

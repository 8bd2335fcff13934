-- What the functions of the sweep promise one another.
use Rattle.std.specs.Prelude.{◌≡◌, Bool, false, cond, List, [], ◌∷◌, ℕ, suc, ◌+◌, ◌*◌, min, max, ◌≤◌, ◌<◌, eqb, length, get_or, take}
use Rattle.circuit.specs.declared.Circuit.{Circuit}
use Rattle.circuit.specs.Gate.{Kind, operands}
use Rattle.circuit.specs.Lines.{Gate, second_read, upto, padded}
use Rattle.circuit.specs.Sizes.{most_lines, held16}
use Rattle.circuit.specs.Structs.{column, gate_of}
use Rattle.sweep.specs.declared.Merging.{Merging}
use Rattle.sweep.specs.Sweep.{has, Sweep, sweep_to}

-- three numbers as one: the first, and two digits of 16 bits
abbrev pub keyed : ℕ → ℕ → ℕ → ℕ
keyed k a b = (k * held16 + a) * held16 + b

-- the key of a gate: its kind, and the lesser and the greater line that it reads, of NOT its line twice. Two gates are the
-- same exactly where their keys are.
unfoldable pub key_of : Gate → ℕ
key_of q = keyed q.kind (min q.left (second_read q)) (max q.left (second_read q))

-- the first of some numbers that is x, or how many there are
unfoldable pub first_at : ℕ → List ℕ → ℕ
first_at x [] = 0
first_at x (y ∷ ys) = cond (eqb x y) 0 (suc (first_at x ys))

-- none of f i, f (i + 1), .., `many` of them, is x
abbrev pub Misses : ℕ → (ℕ → ℕ) → ℕ → ℕ → Type 0
Misses x f i many = (k : ℕ) → i ≤ k → k < i + many → x ≡ f k → ⊥

-- the second operand of a gate, 0 where its kind has one
abbrev pub second_kept : Kind → ℕ → ℕ
second_kept k b = get_or (take (operands k) (0 ∷ b ∷ [])) 1 0

-- some lines as marks, one for each of the lines there may be
unfoldable pub marked : List ℕ → List Bool
marked ls = upto (has ls) most_lines

-- how the code holds the sweep so far: zeros past the last gate kept, and past the last new line
abbrev pub merging : Sweep → Merging
merging s =
    record {
      count = length s.kept;
      kinds = column (λ (q : Gate). q.kind) s.kept;
      left = column (λ (q : Gate). q.left) s.kept;
      right = column (λ (q : Gate). q.right) s.kept;
      new = padded most_lines 0 s.new;
    }

-- the sweep of the gates of a struct, where an array says which lines are reached
abbrev pub sweep_in : Circuit → List Bool → ℕ → Sweep
sweep_in c live = sweep_to c.n (λ (i : ℕ). get_or live i false) (gate_of c)

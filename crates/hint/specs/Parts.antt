-- What the functions inside the hint promise one another.
use Rattle.std.specs.Prelude.{Bool, ◌&&◌, List, [], ◌∷◌, ℕ, ◌+◌, ltb, length, get_or, take}
use Rattle.circuit.specs.Gate.{kind_of, operands}
use Rattle.circuit.specs.Lines.{padded, upto}
use Rattle.circuit.specs.Rows.{sum_of, mask_step, input_masks}
use Rattle.circuit.specs.Sizes.{most_lines}
use Rattle.circuit.specs.Structs.{line_in}
use Rattle.bench.specs.declared.Bench.{Bench}
use Rattle.bench.specs.Parts.{gate_on, entries}
use Rattle.distance.specs.Query.{in_eight}
use Rattle.hint.specs.declared.Base.{Base}
use Rattle.hint.specs.Hint.{shallow, picked, Hinted, hint_from}

-- the sum of what a gate of a kind reads, where its operands have a and b
unfoldable pub read_sum : ℕ → ℕ → ℕ → ℕ
read_sum kind a b = sum_of (take (operands (kind_of kind)) (a ∷ b ∷ []))

-- the mask of each line on a bench, zeros past the last
unfoldable pub masks_on : Bench → List ℕ
masks_on b = entries mask_step 0 (input_masks b.n) (gate_on b) b.n b.g

-- the lines at most 15 deep among the first `count`, where these are the depths of all
abbrev pub shallow_among : List ℕ → ℕ → List ℕ
shallow_among ds count = shallow (upto (λ (i : ℕ). get_or ds i 0) count)

-- the base from the lines with these numbers: what each has, and how many there are
abbrev pub base_with : List ℕ → List ℕ → List ℕ → Base
base_with is ms ds =
    record { masks = padded most_lines 0 (picked is ms); depths = padded most_lines 0 (picked is ds); lines = padded most_lines 0 is; count = length is }

-- the base from the first `count` lines, where these are the masks and the depths of all
unfoldable pub gathered : List ℕ → List ℕ → ℕ → Base
gathered ms ds count = base_with (shallow_among ds count) ms ds

-- the numbers of lines that are given by their places in a base
unfoldable pub numbered : List ℕ → List ℕ → ℕ → List ℕ
numbered ls places count = in_eight (upto (λ (k : ℕ). get_or ls (line_in (get_or places k 0)) 0) count)

-- what is answered of the lines on a bench
unfoldable pub hint_on : Bench → ℕ → ℕ → Hinted
hint_on b t D = hint_from b.n (shallow_among b.depths (b.n + b.g)) (masks_on b) b.depths t D

-- row j is one of a matrix of m rows
abbrev pub is_row : Bool → ℕ → ℕ → Bool
is_row only j m = only && ltb j m

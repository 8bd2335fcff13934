-- Targets ("Targets, limits and report", with constants): what a matrix or a table wants of each output, the rules that it
-- keeps, and the bytes that it is brought in.
use Rattle.std.specs.Prelude.{Bool, true, false, ◌&&◌, List, ◌++◌, map, ℕ, ◌+◌, ◌*◌, ◌^◌, leb, ltb, eqb, length, get_or}
use Rattle.circuit.specs.Gate.{bit}
use Rattle.circuit.specs.Lines.{upto}
use Rattle.circuit.specs.Rows.{Row, row, no_row, on_row}
use Rattle.circuit.specs.Rules.{all_of}

-- a matrix has a row for each output, the inputs summed into it and a constant; a table has an entry for each input value
pub data Target : Type 0 where
  matrix : List Row → Target
  table : List ℕ → Target

-- under a matrix only linear gates are allowed
abbrev pub is_matrix : Target → Bool
is_matrix (matrix rows) = true
is_matrix (table entries) = false

-- what the target wants of output j on input value x: the row's sum of the inputs, plus its constant; bit j of the entry
abbrev pub wants : Target → ℕ → ℕ → ℕ
wants (matrix rows) x j = on_row (get_or rows j no_row) x
wants (table entries) x j = bit j (get_or entries x 0)

-- ---- rules

-- a row's mask does not reach 2^n, and its constant is 0 or 1
unfoldable pub row_is_sound : ℕ → Row → Bool
row_is_sound n r = ltb r.mask (2 ^ n) && ltb r.constant 2

-- an entry is below 2^m
unfoldable pub entry_fits : ℕ → ℕ → Bool
entry_fits m entry = ltb entry (2 ^ m)

-- what an edit brings, by the target's kind: a row; or an entry, beside which the constant is 0
abbrev pub value_fits : Bool → ℕ → ℕ → ℕ → ℕ → Bool
value_fits true n m value constant = row_is_sound n (row value constant)
value_fits false n m value constant = entry_fits m value && eqb constant 0

-- the target's rule, for n inputs and m outputs: a matrix has m rows, a table 2^n entries and m at most 8
unfoldable pub target_fits : ℕ → ℕ → Target → Bool
target_fits n m (matrix rows) = eqb (length rows) m && all_of (row_is_sound n) rows
target_fits n m (table entries) = leb m 8 && (eqb (length entries) (2 ^ n) && all_of (entry_fits m) entries)

-- ---- in bytes

-- how many bytes a mask of n inputs has
abbrev pub mask_bytes : ℕ → ℕ
mask_bytes n = 1

-- row j of m: the masks come first, then the constants
abbrev pub row_in : ℕ → ℕ → List ℕ → ℕ → Row
row_in n m bytes j = row (get_or bytes (j * mask_bytes n) 0) (get_or bytes (m * mask_bytes n + j) 0)

-- the m rows over n inputs that some bytes are
abbrev pub rows_in : ℕ → ℕ → List ℕ → List Row
rows_in n m bytes = upto (row_in n m bytes) m

-- a target as it is brought: whether it is a matrix, and its bytes
pub record Brought : Type 0 where
  pub of_matrix : Bool
  pub bytes : List ℕ

-- one of either kind
abbrev pub brought : Bool → List ℕ → Brought
brought only bytes = record { of_matrix = only; bytes = bytes }

-- the target that some bytes are, by its kind
abbrev pub target_by : Bool → ℕ → ℕ → List ℕ → Target
target_by true n m bytes = matrix (rows_in n m bytes)
target_by false n m bytes = table bytes

-- the target that is brought, for n inputs and m outputs
abbrev pub target_in : ℕ → ℕ → Brought → Target
target_in n m b = target_by b.of_matrix n m b.bytes

-- the rule of what is brought: a matrix has the masks and the constants of m rows, and no more; and the target keeps its own rule
abbrev pub bytes_fit : Bool → ℕ → ℕ → List ℕ → Bool
bytes_fit true n m bytes = eqb (length bytes) (m * mask_bytes n + m) && target_fits n m (matrix (rows_in n m bytes))
bytes_fit false n m bytes = target_fits n m (table bytes)

-- the same of a target by its kind and its bytes
unfoldable pub brought_fits : ℕ → ℕ → Brought → Bool
brought_fits n m b = bytes_fit b.of_matrix n m b.bytes

-- a target's bytes, as they are brought and held
abbrev pub target_bytes : Target → List ℕ
target_bytes (matrix rows) = map (λ (r : Row). r.mask) rows ++ map (λ (r : Row). r.constant) rows
target_bytes (table entries) = entries

-- a target as it is brought
abbrev pub as_brought : Target → Brought
as_brought t = brought (is_matrix t) (target_bytes t)

-- The greedy rule of "The builder": over a base of lines, and for rows that have a limit each, which gates are taken and which lines the outputs name.
use Rattle.std.specs.Prelude.{Bool, cond, ◌&&◌, ◌||◌, List, [], ◌∷◌, ◌++◌, map, ℕ, zero, suc, ◌+◌, ◌-◌, ◌*◌, ◌^◌, leb, ltb, eqb, length}
use Rattle.circuit.specs.Lines.{Gate, Listing, gate, listing, greatest}
use Rattle.distance.specs.Base.{Line, Xor, xor, made, run}
use Rattle.distance.specs.Distance.{Gap, gates, never, distance, numbers, first_set}

-- a row: the mask of the inputs that are summed into an output, and the depth that the output may have
pub record Row : Type 0 where
  pub mask : ℕ
  pub limit : ℕ

-- the row with this mask and limit
abbrev pub row : ℕ → ℕ → Row
row t d = record { mask = t; limit = d }

-- the rows of a list of masks and a list of limits
abbrev pub rows_of : List ℕ → List ℕ → List Row
rows_of [] ds = []
rows_of (t ∷ ts) [] = []
rows_of (t ∷ ts) (d ∷ ds) = row t d ∷ rows_of ts ds

-- a row's distance from a base, within the row's own limit (masks are bytes: a set of more than 8 lines need not be looked at)
unfoldable pub reach : List Line → Row → Gap
reach ls r = distance 8 ls r.mask r.limit

-- the distance as a number: a row that has none (no row that is accepted) counts for nothing
abbrev pub count : Gap → ℕ
count (gates g) = g
count never = 0

-- a row's distance as a number
abbrev pub away : List Line → Row → ℕ
away ls r = count (reach ls r)

-- the distance of each row
abbrev pub distances : List Line → List Row → List ℕ
distances ls rs = map (away ls) rs

-- the sum of some numbers
abbrev pub sum : List ℕ → ℕ
sum [] = 0
sum (x ∷ xs) = x + sum xs

-- the sum of their squares
abbrev pub squares : List ℕ → ℕ
squares [] = 0
squares (x ∷ xs) = x * x + squares xs

-- a pair may be as deep as the greatest row limit
abbrev pub deepest : List Row → ℕ
deepest rs = greatest (map (λ (r : Row). r.limit) rs)

-- ---- a row has distance 1: the lowest such row, and the first pair of lines making it

-- the gate that reads the first two of some lines; lines 0 and 0 where there are no two
abbrev pub pair_of : List ℕ → Xor
pair_of [] = xor 0 0
pair_of (i ∷ []) = xor 0 0
pair_of (i ∷ j ∷ xs) = xor i j

-- the first pair of lines making a row: the first set of two lines for its mask, within its limit
abbrev pub first_pair : List Line → Row → Xor
first_pair ls r = pair_of (numbers 0 ls (first_set 2 r.mask (2 ^ r.limit) ls))

-- the lowest row of distance 1 and its first pair; or g
abbrev pub immediate : List Line → List Row → Xor → Xor
immediate ls [] g = g
immediate ls (r ∷ rs) g =
    let more = immediate ls rs g in
    let pair = first_pair ls r in
    cond (eqb (away ls r) 1) pair more

-- ---- otherwise: the pair giving the smallest sum of distances afterwards; on a tie, the largest sum of their squares; on a further tie, the first pair

-- the best pair so far, with the sums that it gives
pub record Best : Type 0 where
  pub total : ℕ
  pub square : ℕ
  pub pair : Xor

-- a pair with the sums that it gives
abbrev pub best : ℕ → ℕ → Xor → Best
best s q g = record { total = s; square = q; pair = g }

-- no pair yet: 32 distances sum to less
abbrev pub start : Best
start = best 4096 0 (xor 0 0)

-- a smaller sum, or the same sum and a larger sum of squares
abbrev pub better : Best → Best → Bool
better x y = ltb x.total y.total || (eqb x.total y.total && ltb y.square x.square)

-- a pair by the distances that it leaves
abbrev pub scored : List ℕ → Xor → Best
scored ds g = best (sum ds) (squares ds) g

-- `after g` are the distances once gate g is added, and `top` the depth that a pair may have
module _ (ls : List Line) (after : Xor → List ℕ) (top : ℕ) where
  -- a pair against the best so far: it must not be too deep, and must be better
  abbrev pub consider : Xor → Best → Best
  consider g b =
      let x = scored (after g) g in
      let y = cond (better x b) x b in
      cond (leb (made ls g).depth top) y b

  -- the f pairs (i, j), (i, j + 1) and so on
  abbrev pub along_line : ℕ → ℕ → ℕ → Best → Best
  along_line zero i j b = b
  along_line (suc f) i j b = along_line f i (suc j) (consider (xor i j) b)

  -- the pairs whose first line is one of f from i on
  abbrev pub all_pairs : ℕ → ℕ → Best → Best
  all_pairs zero i b = b
  all_pairs (suc f) i b = all_pairs f (suc i) (along_line (length ls - suc i) i (suc i) b)

-- the distances of the rows after a gate
abbrev pub distances_after : List Line → List Row → Xor → List ℕ
distances_after ls rs g = distances (ls ++ (made ls g ∷ [])) rs

-- the best of all pairs
abbrev pub best_pair : List Line → List Row → Xor
best_pair ls rs = (all_pairs ls (distances_after ls rs) (deepest rs) (length ls) 0 start).pair

-- the gate that a step adds
abbrev pub next_gate : List Line → List Row → Xor
next_gate ls rs = let other = best_pair ls rs in immediate ls rs other

-- ---- the steps, and the end

-- while some row has a distance above 0, and for at most f steps, a gate is added
abbrev pub greedy : ℕ → List Line → List Row → List Xor
greedy zero ls rs = []
greedy (suc f) ls rs =
    let g = next_gate ls rs in
    let more = g ∷ greedy f (ls ++ (made ls g ∷ [])) rs in
    cond (eqb (sum (distances ls rs)) 0) [] more

-- all the gates: the rows are made by at most 224 (shut, or the number of steps would be unfolded wherever it stands)
unfoldable pub taken : List Line → List Row → List Xor
taken ls rs = greedy 224 ls rs

-- a line makes a row: it has the row's mask, and is within its limit
abbrev pub makes : Row → Line → Bool
makes r l = eqb l.mask r.mask && leb l.depth r.limit

-- the row's lowest line, of lines that are numbered from i on
abbrev pub lowest_from : Row → ℕ → List Line → ℕ
lowest_from r i [] = 0
lowest_from r i (l ∷ ls) = let more = lowest_from r (suc i) ls in cond (makes r l) i more

-- the number of the row's lowest line within its limit, or 0
abbrev pub lowest : List Line → Row → ℕ
lowest ls r = lowest_from r 0 ls

-- gate XOR i j as it stands in a circuit
abbrev pub xor_gate : Xor → Gate
xor_gate g = gate 0 g.a g.b

-- the circuit over a base of n inputs: the gates taken, and each output names its row's lowest line within its limit
unfoldable pub greedy_circuit : ℕ → List Line → List Row → Listing
greedy_circuit n ls rs = listing n (map xor_gate (taken ls rs)) (map (lowest (run ls (taken ls rs))) rs)

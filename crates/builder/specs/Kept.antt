-- What the code keeps from step to step, and what its parts ask and give: the public promises name none of this.
use Rattle.std.specs.Prelude.{Option, Some, None, true, false, cond, List, [], ◌∷◌, ◌++◌, map, ◌≡◌, ℕ, zero, suc, ◌+◌, ◌-◌, ◌*◌, ◌^◌, ◌≤◌, ◌<◌, leb, eqb, length, get_or, take, set, replicate}
use Rattle.std.specs.Int.Bits.{bit_xor}
use Rattle.circuit.specs.Sizes.{most_inputs, most_outputs, most_gates, most_lines}
use Rattle.circuit.specs.Lines.{padded, greatest}
use Rattle.distance.specs.Base.{Line, base_of, Small, Shallow, Xor, xor, made, run, weight, load}
use Rattle.distance.specs.Distance.{gates, can}
use Rattle.distance.specs.Table.{far, cost_at, Holds}
use Rattle.builder.specs.declared.grow.State.{State}
use Rattle.builder.specs.declared.pairs.Goal.{Goal}
use Rattle.builder.specs.declared.pairs.Pair.{Pair}
use Rattle.builder.specs.Rule.{Row, rows_of, reach, distances, sum, next_gate, greedy, taken}

-- a row that the rule is applied to: its mask is not 0, and its limit at most 15
pub record SoundRow (r : Row) : Type 0 where
  pub some : r.mask ≡ 0 → ⊥
  pub shallow : r.limit < 16

-- each row is sound
abbrev pub SoundRows : List Row → Type 0
SoundRows [] = Unit {0}
SoundRows (r ∷ rs) = SoundRow r × SoundRows rs

-- each row has a distance
abbrev pub Alive : List Line → List Row → Type 0
Alive ls [] = Unit {0}
Alive ls (r ∷ rs) = ((g : ℕ) × (reach ls r ≡ gates g)) × Alive ls rs

-- ---- the table

-- no entry is above "none"
abbrev pub Capped : List ℕ → Type 0
Capped h = (j : ℕ) → get_or h j 0 ≤ far

-- the table of a base, as far as it is kept up: the sizes below `sizes`, which are those that some row still asks. It has an entry for each byte
pub record Held (h : List ℕ) (ls : List Line) (sizes : ℕ) : Type 0 where
  pub holds : Holds h ls sizes
  pub bytes : Small 8 ls
  pub cap : Capped h

-- ---- the goals: what is still to be made, in three lists. A row with mask t at distance g + 1 has the place g * 256 + t, the room 2 ^ limit and the low g

-- of a row at distance g + 1: 0 where one line more brings it one gate nearer, and 1 where it stays where it is. It comes nearer where the base with
-- that line, `new`, has a set of g + 1 lines that makes it
unfoldable pub stays : List Line → ℕ → Row → ℕ
stays new g r = cond (can (suc g) r.mask (2 ^ r.limit) new) 0 1

-- an answer to that by the table of the base, for a line with mask m and cost c and a goal by its place and room: the line and g lines of the base
-- make the row, which is one look-up
unfoldable pub misses : List ℕ → ℕ → ℕ → ℕ → ℕ → ℕ
misses h m c place room = cond (leb (get_or h (bit_xor place m) 0 + c) room) 0 1

-- the answers of f to each goal
abbrev pub missed : (ℕ → ℕ → ℕ) → List ℕ → List ℕ → List ℕ
missed f [] fs = []
missed f (p ∷ ps) [] = []
missed f (p ∷ ps) (r ∷ fs) = f p r ∷ missed f ps fs

-- two lists added entry by entry
abbrev pub added : List ℕ → List ℕ → List ℕ
added [] ys = []
added (x ∷ xs) [] = []
added (x ∷ xs) (y ∷ ys) = (x + y) ∷ added xs ys

-- the goals' distances after a line of which f answers
abbrev pub goals_after : (ℕ → ℕ → ℕ) → List ℕ → List ℕ → List ℕ → List ℕ
goals_after f ps fs gs = added gs (missed f ps fs)

-- of the rows that are not made, what f makes of the distance less one and of the row's entry in xs
abbrev pub to_go : (ℕ → ℕ → ℕ) → List ℕ → List ℕ → List ℕ
to_go f [] xs = []
to_go f (g ∷ gs) [] = []
to_go f (zero ∷ gs) (x ∷ xs) = to_go f gs xs
to_go f (suc g ∷ gs) (x ∷ xs) = f g x ∷ to_go f gs xs

-- a goal's place in the table
abbrev pub place_of : ℕ → ℕ → ℕ
place_of g t = g * 256 + t

-- a goal's room: 2 ^ limit
abbrev pub room_of : ℕ → ℕ → ℕ
room_of g limit = cost_at limit

-- a goal's distance less one
abbrev pub low_of : ℕ → ℕ → ℕ
low_of g t = g

-- f answers rightly of each of these rows, where `new` is the base ls with one line more
abbrev pub Tells : (ℕ → ℕ → ℕ) → List Line → List Line → List Row → Type 0
Tells f ls new [] = Unit {0}
Tells f ls new (r ∷ rs) = ((g : ℕ) → reach ls r ≡ gates (suc g) → f (place_of g r.mask) (room_of g r.limit) ≡ stays new g r) × Tells f ls new rs

-- the three fields of some goals as the code has them
abbrev pub places : List Goal → List ℕ
places gs = map (λ (g : Goal). g.place) gs

abbrev pub rooms : List Goal → List ℕ
rooms gs = map (λ (g : Goal). g.room) gs

abbrev pub lows : List Goal → List ℕ
lows gs = map (λ (g : Goal). g.low) gs

-- three lists that are goals
pub record Goals (ps fs gs : List ℕ) : Type 0 where
  pub places : length ps ≡ length gs
  pub rooms : length fs ≡ length gs
  pub few : length gs ≤ most_outputs
  pub below : (i : ℕ) → get_or ps i 0 < 2048
  pub low : (i : ℕ) → get_or gs i 0 < 8

-- the goals of rows with these distances, in three arrays: how many, and the sum of the lows
pub record Aimed (ts limits gaps places rooms lows : List ℕ) (k floor : ℕ) : Type 0 where
  pub places_are : places ≡ padded most_outputs 0 (to_go place_of gaps ts)
  pub rooms_are : rooms ≡ padded most_outputs 0 (to_go room_of gaps limits)
  pub lows_are : lows ≡ padded most_outputs 0 (to_go low_of gaps ts)
  pub count_is : k ≡ length (to_go low_of gaps ts)
  pub floor_is : floor ≡ sum (to_go low_of gaps ts)

-- ---- the choice of a gate

-- the table's answers after gate g
abbrev pub look_up : List ℕ → List Line → Xor → ℕ → ℕ → ℕ
look_up h ls g = misses h (made ls g).mask (2 ^ (made ls g).depth)

-- what the choice of a gate is given: the base in two lists, the rows in two more, their distances, and answers that are right of every pair
pub record Choosing (ms ds ts limits gaps h : List ℕ) : Type 0 where
  pub even : length ms ≡ length ds
  pub shallow : Shallow ds
  pub paired : length ts ≡ length limits
  pub few : length ts ≤ most_outputs
  pub sound : SoundRows (rows_of ts limits)
  pub limited : Shallow limits
  pub alive : Alive (base_of ms ds) (rows_of ts limits)
  pub gaps_are : gaps ≡ distances (base_of ms ds) (rows_of ts limits)
  pub bytes : (i : ℕ) → get_or ts i 0 < 256
  pub masks : (i : ℕ) → get_or ms i 0 < 256
  pub cap : Capped h
  pub tells : (i j : ℕ) → i < j → j < length ms → Tells (look_up h (base_of ms ds) (xor i j)) (base_of ms ds) (base_of ms ds ++ (made (base_of ms ds) (xor i j) ∷ [])) (rows_of ts limits)

-- what the weighing of the pairs is given: the base, the goals, the greatest depth, and the sum of the lows
pub record Weighing (ms ds ps fs gs h : List ℕ) (top floor : ℕ) : Type 0 where
  pub even : length ms ≡ length ds
  pub shallow : Shallow ds
  pub goals : Goals ps fs gs
  pub bytes : (i : ℕ) → get_or ms i 0 < 256
  pub cap : Capped h
  pub deep : top < 16
  pub floor_is : floor ≡ sum gs

-- the goals' distances after gate g, of which `f g` answers
abbrev pub goals_with : (Xor → ℕ → ℕ → ℕ) → List ℕ → List ℕ → List ℕ → Xor → List ℕ
goals_with f ps fs gs g = goals_after (f g) ps fs gs

-- a row's distance after a line of which f answers, from its distance before, its mask and its limit
abbrev pub next_gap : (ℕ → ℕ → ℕ) → ℕ → ℕ → ℕ → ℕ
next_gap f zero t d = 0
next_gap f (suc g) t d = g + f (place_of g t) (room_of g d)

-- the same of each row
abbrev pub next_gaps : (ℕ → ℕ → ℕ) → List ℕ → List ℕ → List ℕ → List ℕ
next_gaps f [] ts ds = []
next_gaps f (g ∷ gs) [] ds = []
next_gaps f (g ∷ gs) (t ∷ ts) [] = []
next_gaps f (g ∷ gs) (t ∷ ts) (d ∷ ds) = next_gap f g t d ∷ next_gaps f gs ts ds

-- the gate (i, j) is the next one
pub record Next (ls : List Line) (rs : List Row) (i j : ℕ) : Type 0 where
  pub left_to_do : eqb (sum (distances ls rs)) 0 ≡ false
  pub is : next_gate ls rs ≡ xor i j

-- the choice: no gate where every row is made, and else the next one
abbrev pub Chosen : List Line → List Row → Option Pair → Type 0
Chosen ls rs None = eqb (sum (distances ls rs)) 0 ≡ true
Chosen ls rs (Some p) = Next ls rs p.a p.b

-- ---- the steps

-- what the new distances are made from: the old ones, the rows, the table, and the new line's mask and cost
pub record Lowering (gaps ts limits h : List ℕ) (m c : ℕ) : Type 0 where
  pub rows : length gaps ≡ length ts
  pub limits_too : length gaps ≡ length limits
  pub few : length gaps ≤ most_outputs
  pub near : (i : ℕ) → get_or gaps i 0 < 8
  pub cap : Capped h
  pub cheap : c ≤ 32768
  pub bytes : (i : ℕ) → get_or ts i 0 < 256
  pub byte : m < 256

-- the base that a state holds: the first `len` entries of its two arrays
unfoldable pub base : State → List Line
base s = base_of (take s.len s.masks) (take s.len s.depths)

-- a state from which the rule can go on: every row has a distance, and the distances stand in the state
pub record Poised (ts limits : List ℕ) (s : State) : Type 0 where
  pub within : s.len < most_lines
  pub wide : length s.masks ≡ most_lines
  pub deep : length s.depths ≡ most_lines
  pub shallow : Shallow s.depths
  pub paired : length ts ≡ length limits
  pub few : length ts ≤ most_outputs
  pub sound : SoundRows (rows_of ts limits)
  pub alive : Alive (base s) (rows_of ts limits)
  pub near : sum (distances (base s) (rows_of ts limits)) ≤ 4096
  pub gaps_are : s.gaps ≡ padded most_outputs 0 (distances (base s) (rows_of ts limits))

-- the table of its base, for the distances that are left, and rows that it has entries for
pub record Tabled (ts limits : List ℕ) (s : State) (h : List ℕ) : Type 0 where
  pub held : Held h (base s) (greatest (distances (base s) (rows_of ts limits)))
  pub bytes : (i : ℕ) → get_or ts i 0 < 256

-- r is s with the gate (i, j), and h the table of r
pub record Stepped (ts limits : List ℕ) (s r : State) (h : List ℕ) (i j : ℕ) : Type 0 where
  pub lines_are : base r ≡ base s ++ (made (base s) (xor i j) ∷ [])
  pub long : r.len ≡ s.len + 1
  pub counted : r.count ≡ s.count + 1
  pub lefts : r.left ≡ set s.left s.count i
  pub rights : r.right ≡ set s.right s.count j
  pub wide : length r.masks ≡ most_lines
  pub deep : length r.depths ≡ most_lines
  pub shallow : Shallow r.depths
  pub gaps_are : r.gaps ≡ padded most_outputs 0 (distances (base r) (rows_of ts limits))
  pub tabled : Tabled ts limits r h

-- the state after some steps from the base `first`
pub record SoFar (first : List Line) (ts limits : List ℕ) (s : State) : Type 0 where
  pub poised : Poised ts limits s
  pub so_far : List Xor
  pub counted : length so_far ≡ s.count
  pub upto : s.count ≤ 224
  pub written : taken first (rows_of ts limits) ≡ so_far ++ greedy (224 - s.count) (base s) (rows_of ts limits)
  pub ran : run first (taken first (rows_of ts limits)) ≡ run (base s) (greedy (224 - s.count) (base s) (rows_of ts limits))
  pub lefts : s.left ≡ padded most_gates 0 (map (λ (g : Xor). g.a) so_far)
  pub rights : s.right ≡ padded most_gates 0 (map (λ (g : Xor). g.b) so_far)
  pub few_inputs : length first ≤ 8
  pub long : s.len ≡ length first + s.count

-- the end: all the gates, and all the lines
pub record Grown (first : List Line) (rs : List Row) (s : State) : Type 0 where
  pub lines_are : base s ≡ run first (taken first rs)
  pub lefts : s.left ≡ padded most_gates 0 (map (λ (g : Xor). g.a) (taken first rs))
  pub rights : s.right ≡ padded most_gates 0 (map (λ (g : Xor). g.b) (taken first rs))
  pub counted : s.count ≡ length (taken first rs)
  pub within : s.len < most_lines
  pub shallow : Shallow s.depths

-- ---- the front

-- a row's weight, and its load
pub record Summed (n : ℕ) (ar : List ℕ) (t w l : ℕ) : Type 0 where
  pub weight_is : w ≡ weight n t
  pub load_is : l ≡ load n ar t

-- a mask's weight and its load in one number: the load is below 2 ^ 20
abbrev pub mask_sum : ℕ → List ℕ → ℕ → ℕ
mask_sum n ar t = weight n t * 1048576 + load n ar t

-- those of the masks below 2 ^ n, in an array for 256
pub record MaskSums (n : ℕ) (ar sums : List ℕ) : Type 0 where
  pub long : length sums ≡ 256
  pub at : (t : ℕ) → t < 2 ^ n → get_or sums t 0 ≡ mask_sum n ar t

-- inputs and rows that no refusal ahead of 10 stops
pub record Fit (n : ℕ) (ar ts : List ℕ) : Type 0 where
  pub inputs : n ≤ most_inputs
  pub few : length ts ≤ most_outputs
  pub arrivals : length ar ≡ n
  pub early : Shallow ar
  pub some : (i : ℕ) → i < length ts → get_or ts i 0 ≡ 0 → ⊥
  pub below : (i : ℕ) → get_or ts i 0 < 2 ^ n

-- the same with the limits
pub record Looking (n : ℕ) (ar ts ds : List ℕ) : Type 0 where
  pub fit : Fit n ar ts
  pub limits : length ts ≡ length ds
  pub shallow : Shallow ds

-- the state before the first step
pub record Begun (n : ℕ) (ar ts : List ℕ) (s : State) : Type 0 where
  pub masks_are : s.masks ≡ 1 ∷ 2 ∷ 4 ∷ 8 ∷ 16 ∷ 32 ∷ 64 ∷ 128 ∷ replicate most_gates 0
  pub depths_are : s.depths ≡ padded most_lines 0 ar
  pub long : s.len ≡ n
  pub gaps_are : s.gaps ≡ padded most_outputs 0 (map (λ (t : ℕ). weight n t - 1) ts)
  pub lefts : s.left ≡ replicate most_gates 0
  pub rights : s.right ≡ replicate most_gates 0
  pub none : s.count ≡ 0

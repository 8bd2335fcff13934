-- The call with late signals: each input has an arrival depth, and each row a depth limit of its own ("4/14"). The call of 01 is the case of
-- arrivals 0 and one limit for all rows.
use Rattle.std.specs.Prelude.{Result, Ok, Bool, not, ◌&&◌, ◌||◌, List, map, ◌≡◌, ℕ, ◌^◌, ltb, eqb, length}
use Rattle.circuit.specs.declared.Circuit.{Circuit}
use Rattle.circuit.specs.declared.Refusal.{Refusal}
use Rattle.circuit.specs.declared.Refusal.TheVariants.{Shape, Length, Target, TooDeep, TooShallow}
use Rattle.circuit.specs.Lines.{Listing, any_of}
use Rattle.circuit.specs.Structs.{held}
use Rattle.circuit.specs.Rules.{Answer, done, shaped, and_then, unless}
use Rattle.stored.specs.Stored.{stored}
use Rattle.stored.specs.Writing.{Writing, into_room, room_after, writing_code}
use Rattle.distance.specs.Base.{arriving, load}
use Rattle.builder.specs.Rule.{Row, rows_of, greedy_circuit}
use Rattle.builder.specs.Call.{bad_row}

-- the circuit that is built: the base begins with the n inputs at their arrivals, and each row has its own limit
unfoldable pub late_built : ℕ → List ℕ → List ℕ → List ℕ → Listing
late_built n ar ts ds = greedy_circuit n (arriving n ar) (rows_of ts ds)

-- an arrival for each input, and a limit for each row
abbrev pub lists_fit : ℕ → List ℕ → List ℕ → List ℕ → Bool
lists_fit n ar ts ds = eqb (length ar) n && eqb (length ds) (length ts)

-- one of these depths is over 15
abbrev pub any_deep : List ℕ → Bool
any_deep ds = any_of (map (ltb 15) ds)

-- a row's sum of 2 ^ arrival over its inputs exceeds 2 ^ its limit
abbrev pub too_late : ℕ → List ℕ → Row → Bool
too_late n ar r = ltb (2 ^ r.limit) (load n ar r.mask)

-- what is refused before anything is built: n or the number of rows (1), the number of arrivals or of limits (2), a row (8), an arrival or a
-- limit (9), a matrix too shallow (10)
unfoldable pub late_refusal : ℕ → List ℕ → List ℕ → List ℕ → Answer
late_refusal n ar ts ds =
    unless (shaped n (length ts) 0) Shape
    (unless (lists_fit n ar ts ds) Length
    (unless (not (any_of (map (bad_row n) ts))) Target
    (unless (not (any_deep ar || any_deep ds)) TooDeep
    (unless (not (any_of (map (too_late n ar) (rows_of ts ds)))) TooShallow done))))

-- what `plan_late` gives: the circuit, or why none is built
unfoldable pub late_plan_of : ℕ → List ℕ → List ℕ → List ℕ → Result Circuit Refusal
late_plan_of n ar ts ds = and_then (late_refusal n ar ts ds) (Ok (held (late_built n ar ts ds)))

-- how many bytes stand first in the room, or why none does: a room shorter than the stored answer (11) is found last
unfoldable pub late_answer : ℕ → List ℕ → List ℕ → List ℕ → ℕ → Writing
late_answer n ar ts ds room = into_room (late_refusal n ar ts ds) (length (stored (late_built n ar ts ds))) room

-- what `build_late` promises of its answer and of the room
pub record BuildsLate (n : ℕ) (ar ts ds : List ℕ) (room : List ℕ) (r : Writing) (out : List ℕ) : Type 0 where
  pub answer : r ≡ late_answer n ar ts ds (length room)
  pub bytes : out ≡ room_after (late_answer n ar ts ds (length room)) (stored (late_built n ar ts ds)) room

-- what `build_late_no` promises: the answer as one number, and the room the same
pub record BuildsLateNumbered (n : ℕ) (ar ts ds : List ℕ) (room : List ℕ) (r : ℕ) (out : List ℕ) : Type 0 where
  pub answer : r ≡ writing_code (late_answer n ar ts ds (length room))
  pub bytes : out ≡ room_after (late_answer n ar ts ds (length room)) (stored (late_built n ar ts ds)) room

-- The call: from n, the rows and a depth limit D to a circuit, or a refusal ("Order. Build"); and what it leaves in the lent room.
use Rattle.std.specs.Prelude.{Result, Ok, Bool, not, ◌||◌, List, map, ◌≡◌, ℕ, ◌^◌, leb, ltb, eqb, length}
use Rattle.circuit.specs.declared.Circuit.{Circuit}
use Rattle.circuit.specs.declared.Refusal.{Refusal}
use Rattle.circuit.specs.declared.Refusal.TheVariants.{Shape, Target, TooDeep, TooShallow}
use Rattle.circuit.specs.Lines.{Listing, any_of}
use Rattle.circuit.specs.Structs.{held}
use Rattle.circuit.specs.Rules.{Answer, done, shaped, and_then, unless}
use Rattle.stored.specs.Stored.{stored}
use Rattle.stored.specs.Writing.{Writing, into_room, room_after, writing_code}
use Rattle.distance.specs.Base.{inputs, weight}
use Rattle.builder.specs.Rule.{Row, row, greedy_circuit}

-- every row has the limit D
abbrev pub within : ℕ → List ℕ → List Row
within D ts = map (λ (t : ℕ). row t D) ts

-- the circuit that is built: the base begins with the n inputs at depth 0
unfoldable pub built : ℕ → List ℕ → ℕ → Listing
built n ts D = greedy_circuit n (inputs n) (within D ts)

-- a row is 0, or reaches 2 ^ n
abbrev pub bad_row : ℕ → ℕ → Bool
bad_row n t = eqb t 0 || leb (2 ^ n) t

-- a row's weight exceeds 2 ^ D
abbrev pub too_heavy : ℕ → ℕ → ℕ → Bool
too_heavy n D t = ltb (2 ^ D) (weight n t)

-- what is refused before anything is built: n or the number of rows (1), a row (8), D (9), a matrix too shallow (10)
unfoldable pub refusal : ℕ → List ℕ → ℕ → Answer
refusal n ts D =
    unless (shaped n (length ts) 0) Shape
    (unless (not (any_of (map (bad_row n) ts))) Target
    (unless (leb D 15) TooDeep
    (unless (not (any_of (map (too_heavy n D) ts))) TooShallow done)))

-- what `plan` gives for n, rows and D: the circuit, or why none is built
unfoldable pub plan_of : ℕ → List ℕ → ℕ → Result Circuit Refusal
plan_of n ts D = and_then (refusal n ts D) (Ok (held (built n ts D)))

-- how many bytes stand first in the room, or why none does: a room shorter than the stored answer (11) is found last
unfoldable pub build_answer : ℕ → List ℕ → ℕ → ℕ → Writing
build_answer n ts D room = into_room (refusal n ts D) (length (stored (built n ts D))) room

-- what `build` promises of its answer and of the room
pub record Builds (n : ℕ) (ts : List ℕ) (D : ℕ) (room : List ℕ) (r : Writing) (out : List ℕ) : Type 0 where
  pub answer : r ≡ build_answer n ts D (length room)
  pub bytes : out ≡ room_after (build_answer n ts D (length room)) (stored (built n ts D)) room

-- what `build_no` promises: the answer as one number, and the room the same
pub record BuildsNumbered (n : ℕ) (ts : List ℕ) (D : ℕ) (room : List ℕ) (r : ℕ) (out : List ℕ) : Type 0 where
  pub answer : r ≡ writing_code (build_answer n ts D (length room))
  pub bytes : out ≡ room_after (build_answer n ts D (length room)) (stored (built n ts D)) room

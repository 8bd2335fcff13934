-- A hint: how far a row of the open matrix is from the lines of the open circuit, and from which of them. Constants do not count:
-- of a row its mask alone, and of a line behind XNOR or NOT the inputs that it sums.
use Rattle.std.specs.Prelude.{◌≡◌, Option, Some, None, Result, Ok, Err, cond, List, map, ℕ, ◌+◌, leb, ltb, length, get_or}
use Rattle.circuit.specs.declared.Refusal.{Refusal}
use Rattle.circuit.specs.declared.Refusal.TheVariants.{Shape, Length, Target as BadTarget, TooDeep, NotThere, NothingOpen}
use Rattle.circuit.specs.Lines.{Listing, gate_at, depths}
use Rattle.circuit.specs.Rows.{no_row, masks_of}
use Rattle.circuit.specs.Rules.{refusal_no, answer_no}
use Rattle.distance.specs.declared.Refusal.{Refusal as QueryRefusal}
use Rattle.distance.specs.declared.Refusal.TheVariants.{Inputs, Lists, Mask, Depth}
use Rattle.distance.specs.declared.Found.{Found}
use Rattle.distance.specs.declared.FoundNumbers.{FoundNumbers}
use Rattle.distance.specs.Query.{answer_of, lines_of, with_lines, bare_code}
use Rattle.targets.specs.Target.{Target, matrix, table}
use Rattle.bench.specs.declared.Bench.{Bench}
use Rattle.bench.specs.State.{Present, nothing, present}
use Rattle.bench.specs.Held.{Stands}
use Rattle.bench.specs.Calls.{places_from}

-- the depth of each line of a circuit
abbrev pub depths_of : Listing → List ℕ
depths_of c = depths c.inputs (gate_at c) (length c.gates)

-- ---- the query

-- the numbers of the lines that are at most 15 deep, ascending, where these are the depths of all
unfoldable pub shallow : List ℕ → List ℕ
shallow ds = places_from 0 (map (λ (d : ℕ). leb d 15) ds)

-- what the lines with these numbers have, where `xs` is what each line has
abbrev pub picked : List ℕ → List ℕ → List ℕ
picked is xs = map (λ (i : ℕ). get_or xs i 0) is

-- the answer of a query over n inputs to the mask t within depth D, whose base is the lines `is` of masks ms and depths ds
abbrev pub answer_from : ℕ → List ℕ → List ℕ → List ℕ → ℕ → ℕ → Result (Option ℕ) QueryRefusal
answer_from n is ms ds t D = answer_of n (picked is ms) (picked is ds) t D

-- its lines by their numbers: place p of the base is line p of `is`
abbrev pub lines_from : ℕ → List ℕ → List ℕ → List ℕ → ℕ → ℕ → List ℕ
lines_from n is ms ds t D = picked (lines_of n (picked is ms) (picked is ds) t D) is

-- ---- the answer

-- a query's refusal, 1, 2, 8 or 9, as the bench's with that number
abbrev pub hint_refusal : QueryRefusal → Refusal
hint_refusal Inputs = Shape
hint_refusal Lists = Length
hint_refusal Mask = BadTarget
hint_refusal Depth = TooDeep

-- a hint's answer: the fewest gates, that there is no distance, or why the hint is refused
abbrev pub Answer : Type 0
Answer = Result (Option ℕ) Refusal

-- a query's answer as a hint's
abbrev pub hint_answer : Result (Option ℕ) QueryRefusal → Answer
hint_answer (Ok r) = Ok r
hint_answer (Err why) = Err (hint_refusal why)

-- an answer, and beside a distance the lines of the smallest set by their numbers in the circuit, ascending
abbrev pub Hinted : Type 0
Hinted = Result (Option Found) Refusal

-- an answer with its lines
abbrev pub hinted : Answer → List ℕ → Hinted
hinted (Ok r) xs = Ok (with_lines r xs)
hinted (Err why) xs = Err why

-- what is answered of the lines `is`
abbrev pub hint_from : ℕ → List ℕ → List ℕ → List ℕ → ℕ → ℕ → Hinted
hint_from n is ms ds t D = hinted (hint_answer (answer_from n is ms ds t D)) (lines_from n is ms ds t D)

-- of a circuit: from its lines that are at most 15 deep to the mask t within depth D
unfoldable pub hint_for : Listing → ℕ → ℕ → Hinted
hint_for c t D = hint_from c.inputs (shallow (depths_of c)) (masks_of c) (depths_of c) t D

-- of a circuit under a target: no matrix or no row j (12), and then as the query to that row's mask, of a row with a constant too
abbrev pub hint_under : Listing → Target → ℕ → ℕ → Hinted
hint_under c (matrix rows) j D = cond (ltb j (length rows)) (hint_for c (get_or rows j no_row).mask D) (Err NotThere)
hint_under c (table entries) j D = Err NotThere

-- what a hint answers: nothing open (13), and then as above
abbrev pub hint_of : Present → ℕ → ℕ → Hinted
hint_of nothing j D = Err NothingOpen
hint_of (present s) j D = hint_under s.circuit s.target j D

-- what the code promises of a hint, on a bench that stands for p
abbrev pub HintPromise : Bench → ℕ → ℕ → Hinted → Type 0
HintPromise b j D r = (p : Present) → Stands b p → r ≡ hint_of p j D

-- ---- in numbers

-- an answer as one number: the gates, 99 where there is none, and a refusal's number after 100
abbrev pub hint_code : Answer → ℕ
hint_code (Ok (Some g)) = g
hint_code (Ok None) = 99
hint_code (Err why) = 100 + refusal_no why

-- the number of an answer: 0 for a distance and where there is none, which are no refusals
abbrev pub hint_no : {A : Type 0} → Result A Refusal → ℕ
hint_no r = answer_no r

-- a hint in numbers, as a query's answer is given
abbrev pub hint_numbers : Hinted → FoundNumbers
hint_numbers (Ok (Some f)) = record { code = hint_code (Ok (Some f.gates)); count = f.count; lines = f.lines }
hint_numbers (Ok None) = bare_code (hint_code (Ok None))
hint_numbers (Err why) = bare_code (hint_code (Err why))

-- what the code promises of it
abbrev pub HintCode : Bench → ℕ → ℕ → FoundNumbers → Type 0
HintCode b j D r = (p : Present) → Stands b p → r ≡ hint_numbers (hint_of p j D)

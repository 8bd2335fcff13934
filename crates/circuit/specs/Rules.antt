-- The rules of a circuit: what its shape, gates and outputs are refused for, with the numbers of "Numbers given back".
use Rattle.std.specs.Prelude.{Result, Ok, Err, ⊤, Bool, true, cond, ◌&&◌, List, [], ◌∷◌, ℕ, suc, ◌+◌, leb, ltb, eqb, length}
use Rattle.circuit.specs.declared.Refusal.{Refusal}
use Rattle.circuit.specs.declared.Refusal.TheVariants.{Shape, Length, Mark, UnknownKind, Operand, NoLine, NotLinear, Target, TooDeep, TooShallow, NoRoom, NotThere, NothingOpen, Full}
use Rattle.circuit.specs.Sizes.{most_inputs, most_outputs, most_gates}
use Rattle.circuit.specs.Lines.{Gate, Listing, reads, unread}
use Rattle.circuit.specs.Gate.{kind_of, allowed}

-- the number of each refusal
abbrev pub refusal_no : Refusal → ℕ
refusal_no Shape = 1
refusal_no Length = 2
refusal_no Mark = 3
refusal_no UnknownKind = 4
refusal_no Operand = 5
refusal_no NoLine = 6
refusal_no NotLinear = 7
refusal_no Target = 8
refusal_no TooDeep = 9
refusal_no TooShallow = 10
refusal_no NoRoom = 11
refusal_no NotThere = 12
refusal_no NothingOpen = 13
refusal_no Full = 18

-- what a test answers: nothing, or why it refuses
abbrev pub Answer : Type 0
Answer = Result ⊤ Refusal

-- the answer that refuses nothing
abbrev pub done : Answer
done = Ok tt

-- the number of an answer, whatever it gives where nothing is refused: 0 there
abbrev pub answer_no : {A : Type 0} → Result A Refusal → ℕ
answer_no (Ok x) = 0
answer_no (Err w) = refusal_no w

-- the first refusal of two answers
abbrev pub and_then : {A : Type 0} → Answer → Result A Refusal → Result A Refusal
and_then (Ok u) b = b
and_then (Err w) b = Err w

-- a test, and the refusal where it fails
abbrev pub unless : {A : Type 0} → Bool → Refusal → Result A Refusal → Result A Refusal
unless t w a = cond t a (Err w)

-- n, m and g are within their ranges
unfoldable pub shaped : ℕ → ℕ → ℕ → Bool
shaped n m g = leb 1 n && (leb n most_inputs && (leb 1 m && (leb m most_outputs && leb g most_gates)))

-- a test holds of each of them
unfoldable pub all_of : {A : Type 0} → (A → Bool) → List A → Bool
all_of p [] = true
all_of p (x ∷ xs) = p x && all_of p xs

-- what a gate reads is below its line, and what it stores and does not read is 0
unfoldable pub operands_fit : ℕ → Gate → Bool
operands_fit line q = all_of (λ (x : ℕ). ltb x line) (reads q) && all_of (λ (x : ℕ). eqb x 0) (unread q)

-- a gate on a line: kind (4), operands (5), and whether its kind is allowed where only linear ones are (7)
unfoldable pub gate_answer : Bool → ℕ → Gate → Answer
gate_answer only line q =
    unless (leb q.kind 6) UnknownKind (unless (operands_fit line q) Operand (unless (allowed only (kind_of q.kind)) NotLinear done))

-- an output names a line that is there (6)
unfoldable pub out_answer : ℕ → ℕ → Answer
out_answer lines line = unless (ltb line lines) NoLine done

-- what a circuit itself is answered, gate by gate and output by output, whatever its bytes
unfoldable pub gates_answer : Bool → ℕ → List Gate → Answer
gates_answer only line [] = done
gates_answer only line (q ∷ qs) = and_then (gate_answer only line q) (gates_answer only (suc line) qs)

-- the same of the outputs, in a circuit of so many lines
unfoldable pub outs_answer : ℕ → List ℕ → Answer
outs_answer lines [] = done
outs_answer lines (o ∷ os) = and_then (out_answer lines o) (outs_answer lines os)

-- and of the whole circuit: its shape (1), then its gates, then its outputs
unfoldable pub listing_answer : Bool → Listing → Answer
listing_answer only c =
    let g = length c.gates in
    unless (shaped c.inputs (length c.outs) g) Shape (and_then (gates_answer only c.inputs c.gates) (outs_answer (c.inputs + g) c.outs))

-- What reading some bytes answers: the refusals in the order of "Order. Open", with the numbers of "Numbers given back".
use Rattle.std.specs.Prelude.{Result, Ok, Bool, ◌&&◌, List, ◌≡◌, ℕ, zero, suc, ◌+◌, ◌*◌, ◌≤◌, leb, eqb, length, get_or, drop}
use Rattle.circuit.specs.declared.Circuit.{Circuit}
use Rattle.circuit.specs.declared.Refusal.{Refusal}
use Rattle.circuit.specs.declared.Refusal.TheVariants.{Shape, Length, Mark}
use Rattle.circuit.specs.Lines.{Listing, gate}
use Rattle.circuit.specs.Structs.{held}
use Rattle.circuit.specs.Sizes.{most_outputs, most_gates}
use Rattle.circuit.specs.Rules.{Answer, done, and_then, unless, gate_answer, out_answer, shaped}
use Rattle.stored.specs.Stored.{SH, GT, OP, listing_in}

-- two bytes are a mark
abbrev pub is_mark : List ℕ → ℕ → ℕ → Bool
is_mark mark p q = eqb p (get_or mark 0 0) && eqb q (get_or mark 1 0)

-- a gate's record: its mark `GT` (3), then the gate
unfoldable pub gate_record : Bool → ℕ → ℕ → ℕ → ℕ → ℕ → ℕ → Answer
gate_record only line p q kind a b = unless (is_mark GT p q) Mark (gate_answer only line (gate kind a b))

-- an output's record: its mark `OP` (3), then the line
unfoldable pub out_record : ℕ → ℕ → ℕ → ℕ → Answer
out_record lines p q line = unless (is_mark OP p q) Mark (out_answer lines line)

-- the record at the front of what is left to read
abbrev pub gate_here : Bool → ℕ → List ℕ → Answer
gate_here only line s = gate_record only line (get_or s 0 0) (get_or s 1 0) (get_or s 2 0) (get_or s 3 0) (get_or s 4 0)

-- the same for an output, which has no line of its own
abbrev pub out_here : ℕ → ℕ → List ℕ → Answer
out_here lines k s = out_record lines (get_or s 0 0) (get_or s 1 0) (get_or s 2 0)

-- record by record, `count` of them of `size` bytes each, the first of them number k: the first refusal
module _ (here : ℕ → List ℕ → Answer) (size : ℕ) where
  unfoldable pub answers : ℕ → ℕ → List ℕ → Answer
  answers k zero s = done
  answers k (suc count) s = and_then (here k s) (answers (suc k) count (drop size s))

-- past the mark `SH`: shape (1), whole length (2), then the gates, then the outputs
unfoldable pub body_answer : Bool → List ℕ → ℕ → ℕ → ℕ → Answer
body_answer only s n m g =
    unless (shaped n m g) Shape
    (unless (eqb (length s) (5 + 5 * g + 3 * m)) Length
    (and_then (answers (gate_here only) 5 n g (drop 5 s)) (answers (out_here (n + g)) 3 0 m (drop (5 + 5 * g) s))))

-- what reading answers: fewer than 5 bytes (2), `SH` (3), then the rest
unfoldable pub reading_answer : Bool → List ℕ → Answer
reading_answer only s =
    unless (leb 5 (length s)) Length
    (unless (is_mark SH (get_or s 0 0) (get_or s 1 0)) Mark
    (body_answer only s (get_or s 2 0) (get_or s 3 0) (get_or s 4 0)))

-- what reading some bytes gives: the circuit, where nothing is refused
abbrev pub read_stored : Bool → List ℕ → Result Listing Refusal
read_stored only s = and_then (reading_answer only s) (Ok (listing_in s))

-- the same as `read` gives it: the struct that holds the circuit
abbrev pub reading_of : Bool → List ℕ → Result Circuit Refusal
reading_of only s = and_then (reading_answer only s) (Ok (held (listing_in s)))

-- the bytes are as long as the numbers in them say
pub record Whole (s : List ℕ) : Type 0 where
  pub m_most : get_or s 3 0 ≤ most_outputs
  pub g_most : get_or s 4 0 ≤ most_gates
  pub long : length s ≡ 5 + 5 * get_or s 4 0 + 3 * get_or s 3 0

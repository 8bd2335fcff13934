-- "Numbers given back" and "Order" of the definition as tables: for each call its causes of refusal, in plain numbers and in their order.
use mathlib.Core.Path.{◌≡◌}
use mathlib.Core.Bool.{Bool, true, false}
use mathlib.Core.Logic.{◌⊎◌}
use mathlib.Core.List.{List}
use Prim.Native.Nat.{ℕ, zero, suc, ◌+◌, ◌*◌, ◌^◌, ◌≤◌, ◌<◌}
use lib.ListN.{length, get_or}
use Rattle.circuit.specs.Lines.{Gate, Listing}
use Rattle.circuit.specs.Rows.{Row, row, no_row}
use Rattle.circuit.specs.Rules.{answer_no}
use Rattle.stored.specs.Stored.{stored}
use Rattle.distance.specs.Base.{weight, load}
use Rattle.builder.specs.Call.{built}
use Rattle.builder.specs.Late.{late_built}
use Rattle.formula.specs.Text.{word_end}
use Rattle.grammar.specs.File.{Assignment, File, Place}
use Rattle.known.specs.Known.{Fault, NameFault}
use Rattle.meaning.specs.Meaning.{operators_in, inputs_in, sets_output}
use Rattle.drawing.specs.Drawing.{drawn_bytes}
use Rattle.targets.specs.Target.{Target, matrix, table, is_matrix, rows_in, Brought}
use Rattle.bench.specs.State.{State, Present, nothing, present}
use Rattle.bench.specs.Calls.{open_answer, gate_edit_answer, output_edit_answer, entry_edit_answer, limits_answer, sweep_edit, append_answer, reported, store_answer}
use Rattle.bench.specs.Run.{Call}
use Rattle.bench.specs.Run.Call.{opening, replacing, pointing, changing, limiting, sweeping, appending, reporting, storing}
use Rattle.claims.proofs.Causes.{first, accepted, Some}

-- `first no cause rest` gives `no` where the cause is there, and goes on to the rest of the table where it is not.

-- 1: n, m or g outside its range
abbrev pub OutOfRange : ℕ → ℕ → ℕ → Type 0
OutOfRange n m g = (n < 1) ⊎ (8 < n) ⊎ (m < 1) ⊎ (32 < m) ⊎ (248 < g)

-- 3: a mark is wrong
abbrev pub WrongMark : List ℕ → ℕ → ℕ → ℕ → Type 0
WrongMark s at p q = (get_or s at 0 ≡ p → ⊥) ⊎ (get_or s (at + 1) 0 ≡ q → ⊥)

-- 5: operand not below its line, or NOT with second operand not 0
abbrev pub BadOperand : ℕ → ℕ → ℕ → ℕ → Type 0
BadOperand line kind a b = (line ≤ a) ⊎ ((kind ≡ 6) × (b ≡ 0 → ⊥)) ⊎ ((kind ≡ 6 → ⊥) × (line ≤ b))

-- a nonlinear kind: AND, NAND, OR and NOR
abbrev pub NonlinearKind : ℕ → Type 0
NonlinearKind kind = (2 ≤ kind) × (kind ≤ 5)

-- 4, 5, and 7: a nonlinear gate under a matrix
abbrev pub gate_table : Bool → ℕ → ℕ → ℕ → ℕ → (ℕ → Type 0) → ℕ → Type 0
gate_table only line kind a b rest = first 4 (6 < kind) (first 5 (BadOperand line kind a b) (first 7 ((only ≡ true) × NonlinearKind kind) rest))

-- 8, of a row for the builder, which is a mask alone: it is 0 or reaches 2^n
abbrev pub BadRow : ℕ → ℕ → Type 0
BadRow n mask = (mask ≡ 0) ⊎ (2 ^ n ≤ mask)

-- 8, of a row of a target: its mask reaches 2^n, or its constant is neither 0 nor 1
abbrev pub BrokenRow : ℕ → Row → Type 0
BrokenRow n r = (2 ^ n ≤ r.mask) ⊎ (1 < r.constant)

-- 8, of the bytes of a matrix: not m masks and then m constants, or a broken row; of a table: m over 8, not 2^n entries, or one that reaches 2^m
abbrev pub BrokenBytes : Bool → ℕ → ℕ → List ℕ → Type 0
BrokenBytes true n m bytes = (length bytes ≡ m + m → ⊥) ⊎ Some (BrokenRow n) (rows_in n m bytes)
BrokenBytes false n m bytes = (8 < m) ⊎ (length bytes ≡ 2 ^ n → ⊥) ⊎ Some (λ (e : ℕ). 2 ^ m ≤ e) bytes

-- the same of a target as it is brought
abbrev pub BrokenTarget : ℕ → ℕ → Brought → Type 0
BrokenTarget n m t = BrokenBytes t.of_matrix n m t.bytes

-- records of one size, the first of them number k at a place, one after the other
abbrev pub records_table : (ℕ → ℕ → (ℕ → Type 0) → ℕ → Type 0) → ℕ → ℕ → ℕ → ℕ → (ℕ → Type 0) → ℕ → Type 0
records_table one size k at zero rest = rest
records_table one size k at (suc count) rest = one k at (records_table one size (suc k) (at + size) count rest)

-- a gate's record at a place: `GT` (3), then the gate
abbrev pub gate_record_table : Bool → List ℕ → ℕ → ℕ → (ℕ → Type 0) → ℕ → Type 0
gate_record_table only s line at rest = first 3 (WrongMark s at 71 84) (gate_table only line (get_or s (at + 2) 0) (get_or s (at + 3) 0) (get_or s (at + 4) 0) rest)

-- an output's record: `OP` (3), then 6: output names no line
abbrev pub out_record_table : ℕ → List ℕ → ℕ → ℕ → (ℕ → Type 0) → ℕ → Type 0
out_record_table lines s k at rest = first 3 (WrongMark s at 79 80) (first 6 (lines ≤ get_or s (at + 2) 0) rest)

-- reading: fewer than 5 bytes (2), `SH` (3), shape (1), whole length (2), then record by record
abbrev pub body_table : Bool → List ℕ → ℕ → ℕ → ℕ → (ℕ → Type 0) → ℕ → Type 0
body_table only s n m g rest =
    first 1 (OutOfRange n m g)
    (first 2 (length s ≡ 5 + 5 * g + 3 * m → ⊥) (records_table (gate_record_table only s) 5 n 5 g (records_table (out_record_table (n + g) s) 3 0 (5 + 5 * g) m rest)))

abbrev pub reading_table : Bool → List ℕ → (ℕ → Type 0) → ℕ → Type 0
reading_table only s rest =
    first 2 (length s < 5) (first 3 (WrongMark s 0 83 72) (body_table only s (get_or s 2 0) (get_or s 3 0) (get_or s 4 0) rest))

-- open: as reading, last the target (8)
abbrev pub open_table : List ℕ → Brought → ℕ → Type 0
open_table s t = reading_table t.of_matrix s (first 8 (BrokenTarget (get_or s 2 0) (get_or s 3 0) t) accepted)

-- a gate of the circuit is nonlinear
abbrev pub SomeNonlinear : Listing → Type 0
SomeNonlinear c = Some (λ (q : Gate). NonlinearKind q.kind) c.gates

-- open, of bytes that read as the circuit c: under a matrix a nonlinear gate (7), last the target (8)
abbrev pub opened_table : Listing → Brought → ℕ → Type 0
opened_table c t = first 7 ((t.of_matrix ≡ true) × SomeNonlinear c) (first 8 (BrokenTarget c.inputs (length c.outs) t) accepted)

-- edits, report, limits and store: nothing open (13), and then as the state says
abbrev pub when_open : Present → (State → ℕ → Type 0) → ℕ → Type 0
when_open nothing rest n = n ≡ 13
when_open (present s) rest n = rest s n

-- replace a gate: 12, then 4, 5, 7
abbrev pub replace_table : Present → ℕ → ℕ → ℕ → ℕ → ℕ → Type 0
replace_table p k kind a b =
    when_open p (λ s. first 12 (length s.circuit.gates ≤ k) (gate_table (is_matrix s.target) (s.circuit.inputs + k) kind a b accepted))

-- point an output: 12, then 6
abbrev pub point_table : Present → ℕ → ℕ → ℕ → Type 0
point_table p j line =
    when_open p (λ s. first 12 (length s.circuit.outs ≤ j) (first 6 (s.circuit.inputs + length s.circuit.gates ≤ line) accepted))

-- change an entry: 12, then 8; beside a table's entry the constant is 0
abbrev pub entry_causes : Listing → Target → ℕ → ℕ → ℕ → ℕ → Type 0
entry_causes c (matrix rows) i value constant = first 12 (length c.outs ≤ i) (first 8 (BrokenRow c.inputs (row value constant)) accepted)
entry_causes c (table entries) i value constant =
    first 12 (2 ^ c.inputs ≤ i) (first 8 ((2 ^ length c.outs ≤ value) ⊎ (constant ≡ 0 → ⊥)) accepted)

abbrev pub change_table : Present → ℕ → ℕ → ℕ → ℕ → Type 0
change_table p i value constant = when_open p (λ s. entry_causes s.circuit s.target i value constant)

-- append a gate: 18 where 248 are there, then 4, 5, 7
abbrev pub append_table : Present → ℕ → ℕ → ℕ → ℕ → Type 0
append_table p kind a b =
    when_open p (λ s. let g = length s.circuit.gates in first 18 (248 ≤ g) (gate_table (is_matrix s.target) (s.circuit.inputs + g) kind a b accepted))

-- report, limits and sweep: 13 alone
abbrev pub open_only : Present → ℕ → Type 0
open_only p = when_open p (λ s. accepted)

-- store: 13, 11
abbrev pub store_table : Present → ℕ → ℕ → Type 0
store_table p room = when_open p (λ s. first 11 (room < length (stored s.circuit)) accepted)

-- build: 1, 8, 9, 10, 11
abbrev pub build_table : ℕ → List ℕ → ℕ → ℕ → ℕ → Type 0
build_table n ts D room =
    first 1 (OutOfRange n (length ts) 0)
    (first 8 (Some (BadRow n) ts)
    (first 9 (15 < D)
    (first 10 (Some (λ (t : ℕ). 2 ^ D < weight n t) ts)
    (first 11 (room < length (stored (built n ts D))) accepted))))

-- a row's sum of 2 ^ arrival over its inputs exceeds 2 ^ its limit
abbrev pub LateRow : ℕ → List ℕ → List ℕ → List ℕ → Type 0
LateRow n ar ts ds = (i : ℕ) × ((i < length ts) × (2 ^ get_or ds i 0 < load n ar (get_or ts i 0)))

-- a build with late signals: 1, then 2 for the number of arrivals or of limits, 8, 9 for an arrival or a limit, 10, 11
abbrev pub late_table : ℕ → List ℕ → List ℕ → List ℕ → ℕ → ℕ → Type 0
late_table n ar ts ds room =
    first 1 (OutOfRange n (length ts) 0)
    (first 2 ((length ar ≡ n → ⊥) ⊎ (length ds ≡ length ts → ⊥))
    (first 8 (Some (BadRow n) ts)
    (first 9 (Some (λ (a : ℕ). 15 < a) ar ⊎ Some (λ (d : ℕ). 15 < d) ds)
    (first 10 (LateRow n ar ts ds)
    (first 11 (room < length (stored (late_built n ar ts ds))) accepted)))))

-- distance: n (1); mask and depth lists unequal, empty or over 256 (2); a base mask of 2^n or more, target 0 or 2^n or more (8); a depth or D over 15 (9)
abbrev pub distance_table : ℕ → List ℕ → List ℕ → ℕ → ℕ → ℕ → Type 0
distance_table n ms ds t D =
    first 1 ((n < 1) ⊎ (8 < n))
    (first 2 (((length ms ≡ length ds → ⊥) ⊎ (length ms ≡ 0)) ⊎ (256 < length ms))
    (first 8 ((Some (λ (m : ℕ). 2 ^ n ≤ m) ms ⊎ (t ≡ 0)) ⊎ (2 ^ n ≤ t))
    (first 9 (Some (λ (d : ℕ). 16 ≤ d) ds ⊎ (15 < D)) accepted)))

-- there is no row j: the target is no matrix, or has not so many
abbrev pub NoRow : Target → ℕ → Type 0
NoRow (matrix rows) j = length rows ≤ j
NoRow (table entries) j = Unit {0}

-- the mask of row j is 0
abbrev pub RowIsZero : Target → ℕ → Type 0
RowIsZero (matrix rows) j = (get_or rows j no_row).mask ≡ 0
RowIsZero (table entries) j = ⊥

-- hint: 13; no matrix or no row j (12); then as a query, of which the row (8) and the depth (9) are left
abbrev pub hint_table : Present → ℕ → ℕ → ℕ → Type 0
hint_table p j D = when_open p (λ s. first 12 (NoRow s.target j) (first 8 (RowIsZero s.target j) (first 9 (15 < D) accepted)))

-- 15: p is the place of the first byte that no good text has there, and no name that ends at or before it is at fault
abbrev pub BadTextAt : List ℕ → ℕ → Type 0
BadTextAt s p = Place s p × ((a : ℕ) → word_end s a ≤ p → Fault s a → ⊥)

-- 17: no input is read, or no output is set, or one is set and one below it is not
abbrev pub NotWhole : List ℕ → List Assignment → Type 0
NotWhole s l =
    (inputs_in s l ≡ 0)
    ⊎ ((j : ℕ) → sets_output s l j ≡ false)
    ⊎ ((j : ℕ) × (k : ℕ) × (j < k) × (sets_output s l j ≡ false) × (sets_output s l k ≡ true))

-- 1: more than 248 operators, or more than 32 outputs: y32 is set, where with each output all below it are
abbrev pub TooLarge : List ℕ → List Assignment → Type 0
TooLarge s l = (248 < operators_in l) ⊎ (sets_output s l 32 ≡ true)

-- the reading of the text as a file has this
abbrev pub OfReading : List ℕ → (List Assignment → Type 0) → Type 0
OfReading s P = (l : List Assignment) × (File s l) × P l

-- an equation file: bad text (15) or a name at fault (16), whichever is first, then 17, 1, 11
abbrev pub equations_table : List ℕ → ℕ → ℕ → Type 0
equations_table s room =
    first 15 ((p : ℕ) × BadTextAt s p)
    (first 16 ((q : ℕ) × NameFault s q)
    (first 17 (OfReading s (NotWhole s))
    (first 1 (OfReading s (TooLarge s))
    (first 11 (room < length (drawn_bytes s)) accepted))))

-- the number of a call's answer: 0 where nothing is refused
abbrev pub call_no : Present → Call → ℕ
call_no p (opening bytes t l) = answer_no (open_answer bytes t)
call_no p (replacing k kind a b) = answer_no (gate_edit_answer p k kind a b)
call_no p (pointing j line) = answer_no (output_edit_answer p j line)
call_no p (changing i value constant) = answer_no (entry_edit_answer p i value constant)
call_no p (limiting l) = answer_no (limits_answer p)
call_no p sweeping = answer_no (sweep_edit p)
call_no p (appending kind a b) = answer_no (append_answer p kind a b)
call_no p reporting = answer_no (reported p)
call_no p (storing room) = answer_no (store_answer p (length room))

abbrev pub call_table : Present → Call → ℕ → Type 0
call_table p (opening bytes t l) = open_table bytes t
call_table p (replacing k kind a b) = replace_table p k kind a b
call_table p (pointing j line) = point_table p j line
call_table p (changing i value constant) = change_table p i value constant
call_table p (limiting l) = open_only p
call_table p sweeping = open_only p
call_table p (appending kind a b) = append_table p kind a b
call_table p reporting = open_only p
call_table p (storing room) = store_table p (length room)

-- The text of each answer, as the call language has it: each ends its line.
use Rattle.std.specs.Prelude.{Option, Some, None, Result, Ok, Err, List, [], ◌∷◌, ◌++◌, ℕ, ◌+◌, ◌*◌, ◌/◌, ◌^◌, min, length, get_or, take}
use Rattle.circuit.specs.declared.Tally.{Tally}
use Rattle.circuit.specs.declared.Refusal.{Refusal}
use Rattle.circuit.specs.declared.Refusal.TheVariants.{NothingOpen}
use Rattle.circuit.specs.Rules.{Answer}
use Rattle.circuit.specs.Lines.{Listing, gate_at, upto, values, depths, and_depths, depth_of, and_depth_of}
use Rattle.stored.specs.Writing.{Writing}
use Rattle.distance.specs.declared.Refusal.{Refusal as QueryRefusal}
use Rattle.distance.specs.declared.Found.{Found}
use Rattle.distance.specs.Query.{query_refusal_no}
use Rattle.hint.specs.Hint.{Hinted}
use Rattle.drawing.specs.declared.Refusal.TheVariants.{BadText, BadName, NoOutputs, NotStored}
use Rattle.drawing.specs.Drawing.{Drawn}
use Rattle.targets.specs.Wanted.{packed}
use Rattle.bench.specs.declared.Verdict.{Verdict}
use Rattle.bench.specs.declared.Verdict.TheVariants.{Wrong, OverGates, OverDepth, OverAndDepth, Pass}
use Rattle.bench.specs.declared.Report.{Report}
use Rattle.bench.specs.State.{State, Present, nothing, present, verdict_of}
use Rattle.bench.specs.Calls.{Edit}
use Rattle.text.specs.Numbers.{hex_text, labelled, numbered, numbers_text}
use Rattle.listing.specs.Printed.{new_line, refused_name, refused_text, placed_text, counts_text, lines_text, lines_to}
use Rattle.talk.specs.Words.{opened_text, report_name, xor_name, nonlinear_name, not_name, depth_name, and_depth_name, pass_name, wrong_name, over_gates_name, over_depth_name, over_and_depth_name, reworked_name, read_name, held_name, distance_name, none_name}

-- VERDICT
abbrev pub verdict_text : Verdict → List ℕ
verdict_text (Wrong place) = labelled wrong_name place.input ++ labelled (32 ∷ []) place.output
verdict_text OverGates = over_gates_name
verdict_text OverDepth = over_depth_name
verdict_text OverAndDepth = over_and_depth_name
verdict_text Pass = pass_name

-- the counts of a report: `report gates G xor X nonlinear N not T`
abbrev pub tally_text : ℕ → Tally → List ℕ
tally_text g t = labelled report_name g ++ labelled xor_name t.xors ++ labelled nonlinear_name t.nonlinear ++ labelled not_name t.nots

-- `report gates G xor X nonlinear N not T depth D anddepth A VERDICT`
unfoldable pub report_text : Report → List ℕ
report_text r =
    tally_text r.gates r.counts ++ labelled depth_name r.depth ++ labelled and_depth_name r.and_depth ++ (32 ∷ [])
    ++ verdict_text r.verdict ++ new_line

-- a report, or `refused N`
abbrev pub reported_text : Result Report Refusal → List ℕ
reported_text (Ok r) = report_text r
reported_text (Err w) = refused_text w

-- `opened`, or `refused N`
abbrev pub open_text : Answer → List ℕ
open_text (Ok u) = opened_text
open_text (Err w) = refused_text w

-- `NAME X LINE LINE ..`: a number, and lines after it
unfoldable pub listed_text : List ℕ → ℕ → List ℕ → List ℕ
listed_text name x lines = labelled name x ++ numbers_text lines ++ new_line

-- `reworked COUNT LINE LINE ..`
abbrev pub reworked_text : ℕ → List ℕ → List ℕ
reworked_text count lines = listed_text reworked_name count (take count lines)

-- what an edit answers, or `refused N`
abbrev pub edit_text : Edit → List ℕ
edit_text (Ok r) = reworked_text r.count r.lines
edit_text (Err w) = refused_text w

-- `stored COUNT HEX`, `built COUNT HEX` and `read COUNT HEX`, by the first word
unfoldable pub hex_line : List ℕ → ℕ → List ℕ → List ℕ
hex_line name count bytes = labelled name count ++ (32 ∷ []) ++ hex_text bytes ++ new_line

-- how many bytes were written, and which, or `refused N`
abbrev pub written_text : List ℕ → Writing → List ℕ → List ℕ
written_text name (Ok count) bytes = hex_line name count bytes
written_text name (Err w) bytes = refused_text w

-- `read COUNT HEX`, of a file whose circuit has these stored bytes; `refused 15 PLACE`, `refused 16 PLACE` or `refused N`
abbrev pub drawn_text : Drawn → List ℕ → List ℕ
drawn_text (Ok count) bytes = hex_line read_name count bytes
drawn_text (Err (BadText place)) bytes = placed_text 15 place ++ new_line
drawn_text (Err (BadName place)) bytes = placed_text 16 place ++ new_line
drawn_text (Err NoOutputs) bytes = labelled refused_name 17 ++ new_line
drawn_text (Err (NotStored w)) bytes = refused_text w

-- `distance X LINE LINE ..`: so many gates, over these lines
abbrev pub gates_text : ℕ → List ℕ → List ℕ
gates_text x lines = listed_text distance_name x lines

-- `distance none`
abbrev pub no_gates_text : List ℕ
no_gates_text = distance_name ++ none_name ++ new_line

-- a distance with its lines, `distance none` or `refused N`
abbrev pub distance_text : Result (Option ℕ) QueryRefusal → List ℕ → List ℕ
distance_text (Ok (Some x)) lines = gates_text x lines
distance_text (Ok None) lines = no_gates_text
distance_text (Err w) lines = labelled refused_name (query_refusal_no w) ++ new_line

-- a distance with its lines, or `distance none`
abbrev pub gap_text : Option Found → List ℕ
gap_text (Some f) = gates_text f.gates (take f.count f.lines)
gap_text None = no_gates_text

-- what a distance query answers
abbrev pub found_text : Result (Option Found) QueryRefusal → List ℕ
found_text (Ok r) = gap_text r
found_text (Err w) = labelled refused_name (query_refusal_no w) ++ new_line

-- what a hint answers, whose lines are those of the open circuit
abbrev pub hinted_text : Hinted → List ℕ
hinted_text (Ok r) = gap_text r
hinted_text (Err w) = refused_text w

-- ---- held

-- into how many bytes the values on 2^n inputs are packed: one where there are fewer than 8
abbrev pub value_bytes : ℕ → ℕ
value_bytes n = (2 ^ n + 7) / 8

-- how many values a byte has
abbrev pub value_bits : ℕ → ℕ
value_bits n = min 8 (2 ^ n)

-- byte j of values that are given for each input: those on inputs 8 j, 8 j + 1, .., low bit first
abbrev pub byte_of : (ℕ → ℕ) → ℕ → ℕ → ℕ
byte_of value n j = packed (λ (b : ℕ). value (8 * j + b)) (value_bits n)

-- VALUES: a line's value on inputs 0, 1, 2, .., packed into bytes, in hex
unfoldable pub values_text : (ℕ → ℕ) → ℕ → List ℕ
values_text value n = hex_text (upto (byte_of value n) (value_bytes n))

-- ` LINE:DEPTH:ANDDEPTH:VALUES`
unfoldable pub group_text : ℕ → ℕ → ℕ → List ℕ → List ℕ
group_text line depth ands hex = numbered 32 line ++ numbered 58 depth ++ numbered 58 ands ++ (58 ∷ []) ++ hex

-- the value of line i of a circuit on input value x
abbrev pub line_value_on : Listing → ℕ → ℕ → ℕ
line_value_on c i x = get_or (values x c.inputs (gate_at c) (length c.gates)) i 0

-- the group of line i
abbrev pub line_group : Listing → ℕ → List ℕ
line_group c i =
    let g = length c.gates in
    group_text i (get_or (depths c.inputs (gate_at c) g) i 0) (get_or (and_depths c.inputs (gate_at c) g) i 0) (values_text (line_value_on c i) c.inputs)

-- `held COUNT LINE:DEPTH:ANDDEPTH:VALUES ..`, a group for each line
abbrev pub lines_held : Listing → List ℕ
lines_held c = let count = c.inputs + length c.gates in labelled held_name count ++ lines_to (line_group c) count ++ new_line

-- what `held` answers
abbrev pub held_text : Present → List ℕ
held_text nothing = refused_text NothingOpen
held_text (present s) = lines_held s.circuit

-- ---- show

-- the counts and both depths, the lines of gates and outputs, the verdict
abbrev pub state_shown : State → List ℕ
state_shown s =
    let c = s.circuit in
    counts_text c.inputs (length c.outs) (length c.gates) (depth_of c) ++ labelled and_depth_name (and_depth_of c) ++ new_line ++ lines_text c
    ++ verdict_text (verdict_of s) ++ new_line

-- what `show` answers
abbrev pub show_text : Present → List ℕ
show_text nothing = refused_text NothingOpen
show_text (present s) = state_shown s

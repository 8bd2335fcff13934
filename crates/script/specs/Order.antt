-- What a line asks, free of places: words that say bytes are the lists of those bytes.
use Rattle.std.specs.Prelude.{List, ℕ, ◌-◌, take, drop}
use Rattle.text.specs.Numbers.{hex_bytes}
use Rattle.script.specs.declared.Part.{Part}
use Rattle.script.specs.declared.Call.{Call}
use Rattle.script.specs.declared.Call.TheVariants.{Silent, Unreadable, New, OpenMatrix, OpenTable, Report, Gate, Output, Entry, Limits, Sweep, Append, Store, Held, Show, Hint, Build, Late, Distance, Equations}

-- what a line asks; the arguments are those of the call, in the order in which they are typed, and 0 for a constant left out
pub data Order : Type 0 where
  silent : Order
  unreadable : Order
  ask_new : Order
  ask_open_matrix : (bytes rows : List ℕ) (gates depth ands : ℕ) → Order
  ask_open_table : (bytes entries : List ℕ) (gates depth ands : ℕ) → Order
  ask_report : Order
  ask_gate : (k kind a b : ℕ) → Order
  ask_output : (j line : ℕ) → Order
  ask_entry : (i value constant : ℕ) → Order
  ask_limits : (gates depth ands : ℕ) → Order
  ask_sweep : Order
  ask_append : (kind a b : ℕ) → Order
  ask_store : (room : ℕ) → Order
  ask_held : Order
  ask_show : Order
  ask_hint : (row d : ℕ) → Order
  ask_build : (n : ℕ) (rows : List ℕ) (d room : ℕ) → Order
  ask_late : (n : ℕ) (arrivals rows limits : List ℕ) (room : ℕ) → Order
  ask_distance : (n : ℕ) (masks depths : List ℕ) (target d : ℕ) → Order
  ask_equations : (file : List ℕ) (room : ℕ) → Order

-- the digits that stand in a part of the line
abbrev pub digits_in : List ℕ → Part → List ℕ
digits_in line p = take (p.to - p.from) (drop p.from line)

-- the bytes that a part of the line says
abbrev pub bytes_of : List ℕ → Part → List ℕ
bytes_of line p = hex_bytes (digits_in line p)

-- what a call asks, over the line that its parts stand in
abbrev pub order_of : List ℕ → Call → Order
order_of line Silent = silent
order_of line Unreadable = unreadable
order_of line New = ask_new
order_of line (OpenMatrix o) = ask_open_matrix (bytes_of line o.bytes) (bytes_of line o.target) o.gates o.depth o.ands
order_of line (OpenTable o) = ask_open_table (bytes_of line o.bytes) (bytes_of line o.target) o.gates o.depth o.ands
order_of line Report = ask_report
order_of line (Gate e) = ask_gate e.k e.kind e.a e.b
order_of line (Output e) = ask_output e.j e.line
order_of line (Entry e) = ask_entry e.i e.value e.constant
order_of line (Limits e) = ask_limits e.gates e.depth e.ands
order_of line Sweep = ask_sweep
order_of line (Append e) = ask_append e.kind e.a e.b
order_of line (Store room) = ask_store room
order_of line Held = ask_held
order_of line Show = ask_show
order_of line (Hint h) = ask_hint h.row h.d
order_of line (Build b) = ask_build b.n (bytes_of line b.rows) b.d b.room
order_of line (Late b) = ask_late b.n (bytes_of line b.arrivals) (bytes_of line b.rows) (bytes_of line b.limits) b.room
order_of line (Distance d) = ask_distance d.n (bytes_of line d.masks) (bytes_of line d.depths) d.target d.d
order_of line (Equations q) = ask_equations (bytes_of line q.file) q.room

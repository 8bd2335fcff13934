-- The promise of `call_in` determines the call: an order and the line tell each part. Assumes nothing.
use mathlib.Core.Path.{◌≡◌, refl, ap, sym, ◌∙◌}
use mathlib.Core.List.{List}
use Prim.Native.Nat.{ℕ, ◌-◌, ◌*◌}
use native.Mathlib.Omega.{arith}
use lib.ListN.{length, drop, length-drop, length-take}
use Rattle.text.proofs.Numbers.{bytes_length}
use Rattle.script.specs.declared.Part.{Part}
use Rattle.script.specs.declared.Call.{Call}
use Rattle.script.specs.declared.Call.TheVariants.{Silent, Unreadable, New, OpenMatrix, OpenTable, Report, Gate, Output, Entry, Limits, Sweep, Append, Store, Held, Show, Hint, Build, Late, Distance, Equations}
use Rattle.script.specs.Order.{Order, silent, unreadable, ask_new, ask_open_matrix, ask_open_table, ask_report, ask_gate, ask_output, ask_entry, ask_limits, ask_sweep, ask_append, ask_store, ask_held, ask_show, ask_hint, ask_build, ask_late, ask_distance, ask_equations, digits_in, bytes_of, order_of}
use Rattle.script.specs.Placed.{HexPart, Placed, after_words, Follows, Means}

-- the part that says some bytes just before the rest of the line after k words
abbrev part_for : List ℕ → ℕ → List ℕ → Part
part_for line k bytes =
    record {
      from = length line - length (after_words k line) - 2 * length bytes;
      to = length line - length (after_words k line);
    }

part_is : {line : List ℕ} {p : Part} (k : ℕ) → HexPart line p → drop p.to line ≡ after_words k line → p ≡ part_for line k (bytes_of line p)
part_is {line} {p} k h e =
    let t : p.to ≡ length line - length (after_words k line) = omega (arith, length-drop p.to line, ap length e, h.inside) in
    let n : length (digits_in line p) ≡ p.to - p.from = simp (length-take, length-drop) (omega (arith, h.order, h.inside)) in
    let f : p.from ≡ length line - length (after_words k line) - 2 * length (bytes_of line p) =
    omega (arith, t, n, bytes_length (digits_in line p), h.order, h.pairs) in
    λ i. record { from = f i; to = t i }

-- the call that asks an order over a line
abbrev call_for : List ℕ → Order → Call
call_for line silent = Silent
call_for line unreadable = Unreadable
call_for line ask_new = New
call_for line (ask_open_matrix bytes rows g d a) = OpenMatrix (record { bytes = part_for line 2 bytes; target = part_for line 4 rows; gates = g; depth = d; ands = a })
call_for line (ask_open_table bytes entries g d a) = OpenTable (record { bytes = part_for line 2 bytes; target = part_for line 4 entries; gates = g; depth = d; ands = a })
call_for line ask_report = Report
call_for line (ask_gate k kind a b) = Gate (record { k = k; kind = kind; a = a; b = b })
call_for line (ask_output j to) = Output (record { j = j; line = to })
call_for line (ask_entry i value constant) = Entry (record { i = i; value = value; constant = constant })
call_for line (ask_limits g d a) = Limits (record { gates = g; depth = d; ands = a })
call_for line ask_sweep = Sweep
call_for line (ask_append kind a b) = Append (record { kind = kind; a = a; b = b })
call_for line (ask_store room) = Store room
call_for line ask_held = Held
call_for line ask_show = Show
call_for line (ask_hint row d) = Hint (record { row = row; d = d })
call_for line (ask_build n rows d room) = Build (record { n = n; rows = part_for line 3 rows; d = d; room = room })
call_for line (ask_late n arrivals rows limits room) = Late (record { n = n; arrivals = part_for line 3 arrivals; rows = part_for line 4 rows; limits = part_for line 5 limits; room = room })
call_for line (ask_distance n masks depths t d) = Distance (record { n = n; masks = part_for line 3 masks; depths = part_for line 4 depths; target = t; d = d })
call_for line (ask_equations file room) = Equations (record { file = part_for line 2 file; room = room })

call_is : (line : List ℕ) (r : Call) → Placed line r → Follows line r → r ≡ call_for line (order_of line r)
call_is line Silent p f = refl
call_is line Unreadable p f = refl
call_is line New p f = refl
call_is line (OpenMatrix o) p f =
    let b = part_is 2 p.first f.0 in let t = part_is 4 p.second f.1 in
    λ i. OpenMatrix (record { bytes = b i; target = t i; gates = o.gates; depth = o.depth; ands = o.ands })
call_is line (OpenTable o) p f =
    let b = part_is 2 p.first f.0 in let t = part_is 4 p.second f.1 in
    λ i. OpenTable (record { bytes = b i; target = t i; gates = o.gates; depth = o.depth; ands = o.ands })
call_is line Report p f = refl
call_is line (Gate e) p f = refl
call_is line (Output e) p f = refl
call_is line (Entry e) p f = refl
call_is line (Limits e) p f = refl
call_is line Sweep p f = refl
call_is line (Append e) p f = refl
call_is line (Store room) p f = refl
call_is line Held p f = refl
call_is line Show p f = refl
call_is line (Hint h) p f = refl
call_is line (Build b) p f = let rows = part_is 3 p f in λ i. Build (record { n = b.n; rows = rows i; d = b.d; room = b.room })
call_is line (Late b) p f =
    let arrivals = part_is 3 p.two.first f.0 in let rows = part_is 4 p.two.second f.1.0 in let limits = part_is 5 p.third f.1.1 in
    λ i. Late (record { n = b.n; arrivals = arrivals i; rows = rows i; limits = limits i; room = b.room })
call_is line (Distance d) p f =
    let masks = part_is 3 p.first f.0 in let depths = part_is 4 p.second f.1 in
    λ i. Distance (record { n = d.n; masks = masks i; depths = depths i; target = d.target; d = d.d })
call_is line (Equations q) p f = let file = part_is 2 p f in λ i. Equations (record { file = file i; room = q.room })

-- two results that meet the promise of `call_in` are equal
pub call_unique : {line : List ℕ} {r s : Call} {o : Order} → Means line r o → Means line s o → r ≡ s
call_unique {line} {r} {s} m n =
    call_is line r m.places m.follows ∙ ap (call_for line) (m.meaning ∙ sym n.meaning) ∙ sym (call_is line s n.places n.follows)

-- What a line does to the bench and what is answered to it, given what is present before; what `answer_line` promises of both.
use Rattle.std.specs.Prelude.{◌≡◌, true, false, List, [], ◌∷◌, ◌++◌, ℕ, take, drop, replicate}
use Rattle.io.specs.Counts.{IsPrefixLen}
use Rattle.stored.specs.Stored.{stored}
use Rattle.distance.specs.Query.{found_of}
use Rattle.builder.specs.Call.{built, build_answer}
use Rattle.builder.specs.Late.{late_built, late_answer}
use Rattle.drawing.specs.Drawing.{drawn_answer, drawn_bytes}
use Rattle.targets.specs.Target.{brought}
use Rattle.bench.specs.declared.Bench.{Bench}
use Rattle.bench.specs.State.{Present, nothing, limits}
use Rattle.bench.specs.Held.{bench_of, Stands}
use Rattle.bench.specs.Calls.{open_answer, gate_edit, output_edit_answer, entry_edit_answer, limits_answer, no_rework, sweep_edit, append_edit, reported, store_answer, stored_of}
use Rattle.bench.specs.Run.{Call, present_from}
use Rattle.bench.specs.Run.Call.{opening, replacing, pointing, changing, limiting, sweeping, appending, reporting, storing}
use Rattle.hint.specs.Hint.{hint_of}
use Rattle.listing.specs.Printed.{unreadable_text}
use Rattle.script.specs.Order.{Order, silent, unreadable, ask_new, ask_open_matrix, ask_open_table, ask_report, ask_gate, ask_output, ask_entry, ask_limits, ask_sweep, ask_append, ask_store, ask_held, ask_show, ask_hint, ask_build, ask_late, ask_distance, ask_equations}
use Rattle.script.specs.Reading.{order_in}
use Rattle.talk.specs.declared.Told.{Told}
use Rattle.talk.specs.Words.{new_text, stored_name, built_name}
use Rattle.talk.specs.Texts.{open_text, edit_text, reported_text, written_text, drawn_text, found_text, hinted_text, held_text, show_text}

-- what a line does to the bench: it clears it, or makes calls on it
pub data Deed : Type 0 where
  clearing : Deed
  calling : List Call → Deed

-- what each line does: `new` clears the bench; `held`, `show` and `hint` only look at it, and make none of its calls, as do lines that are
-- not about it; `store` lends a room of so many bytes
abbrev pub deed_of : Order → Deed
deed_of silent = calling []
deed_of unreadable = calling []
deed_of ask_new = clearing
deed_of (ask_open_matrix bytes rows g d a) = calling (opening bytes (brought true rows) (limits g d a) ∷ [])
deed_of (ask_open_table bytes entries g d a) = calling (opening bytes (brought false entries) (limits g d a) ∷ [])
deed_of ask_report = calling (reporting ∷ [])
deed_of (ask_gate k kind a b) = calling (replacing k kind a b ∷ [])
deed_of (ask_output j line) = calling (pointing j line ∷ [])
deed_of (ask_entry i value constant) = calling (changing i value constant ∷ [])
deed_of (ask_limits g d a) = calling (limiting (limits g d a) ∷ [])
deed_of ask_sweep = calling (sweeping ∷ [])
deed_of (ask_append kind a b) = calling (appending kind a b ∷ [])
deed_of (ask_store room) = calling (storing (replicate room 0) ∷ [])
deed_of ask_held = calling []
deed_of ask_show = calling []
deed_of (ask_hint row d) = calling []
deed_of (ask_build n rows d room) = calling []
deed_of (ask_late n arrivals rows limits room) = calling []
deed_of (ask_distance n masks depths t d) = calling []
deed_of (ask_equations file room) = calling []

-- what is present after a deed
abbrev pub present_by : Present → Deed → Present
present_by p clearing = nothing
present_by p (calling calls) = present_from p calls

-- what is present after a line
abbrev pub present_after_line : Present → Order → Present
present_after_line p o = present_by p (deed_of o)

-- what is answered
abbrev pub text_of : Present → Order → List ℕ
text_of p silent = []
text_of p unreadable = unreadable_text
text_of p ask_new = new_text
text_of p (ask_open_matrix bytes rows g d a) = open_text (open_answer bytes (brought true rows))
text_of p (ask_open_table bytes entries g d a) = open_text (open_answer bytes (brought false entries))
text_of p ask_report = reported_text (reported p)
text_of p (ask_gate k kind a b) = edit_text (gate_edit p k kind a b)
text_of p (ask_output j line) = edit_text (no_rework (output_edit_answer p j line))
text_of p (ask_entry i value constant) = edit_text (no_rework (entry_edit_answer p i value constant))
text_of p (ask_limits g d a) = edit_text (no_rework (limits_answer p))
text_of p ask_sweep = edit_text (sweep_edit p)
text_of p (ask_append kind a b) = edit_text (append_edit p kind a b)
text_of p (ask_store room) = written_text stored_name (store_answer p room) (stored_of p)
text_of p ask_held = held_text p
text_of p ask_show = show_text p
text_of p (ask_hint row d) = hinted_text (hint_of p row d)
text_of p (ask_build n rows d room) = written_text built_name (build_answer n rows d room) (stored (built n rows d))
text_of p (ask_late n arrivals rows limits room) =
    written_text built_name (late_answer n arrivals rows limits room) (stored (late_built n arrivals rows limits))
text_of p (ask_distance n masks depths t d) = found_text (found_of n masks depths t d)
text_of p (ask_equations file room) = drawn_text (drawn_answer file room) (drawn_bytes file)

-- what is present after some lines, one after the other
abbrev pub present_after_lines : Present → List (List ℕ) → Present
present_after_lines p [] = p
present_after_lines p (line ∷ lines) = present_after_lines (present_after_line p (order_in line)) lines

-- all that is written for them
abbrev pub written : Present → List (List ℕ) → List ℕ
written p [] = []
written p (line ∷ lines) = text_of p (order_in line) ++ written (present_after_line p (order_in line)) lines

-- the calls since the bench was last cleared, after one deed more
abbrev pub calls_by : List Call → Deed → List Call
calls_by made clearing = []
calls_by made (calling calls) = made ++ calls

-- and after some lines
abbrev pub calls_on : List Call → List (List ℕ) → List Call
calls_on made [] = made
calls_on made (line ∷ lines) = calls_on (calls_by made (deed_of (order_in line))) lines

-- the calls that typed lines make, since the last `new`
abbrev pub calls_typed : List (List ℕ) → List Call
calls_typed lines = calls_on [] lines

-- the bench after a line and the answer, first in the room, which held `out` and holds `after`: on every bench the answer is within
-- the room, and past it the room is as it was; on a bench that stands for p the two are what `present_after_line` and `text_of` say
pub record Answers (b : Bench) (o : Order) (out after : List ℕ) (r : Told) : Type 0 where
  pub counts : IsPrefixLen r.len after
  pub rest : drop r.len after ≡ drop r.len out
  pub bench : (p : Present) → Stands b p → r.bench ≡ bench_of (present_after_line p o)
  pub text : (p : Present) → Stands b p → take r.len after ≡ text_of p o

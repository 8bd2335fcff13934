-- Line after line: a program that takes each result on to the next line writes what the definition says of all of them. Assumes nothing.
use Rattle.std.specs.Prelude.{Option, Some, None}
use mathlib.Core.Path.{◌≡◌, refl, ap, ap₂, ◌∙◌}
use mathlib.Core.Bool.{Bool, true, false, cond}
use mathlib.Core.List.{List, [], ◌∷◌, ◌++◌}
use Prim.Native.Nat.{ℕ, ◌≤◌}
use native.Mathlib.Omega.{arith}
use borrow.Author.Tests.{leb-true}
use lib.Dec.{leb, ltb, eqb}
use lib.ListN.{length, get_or, take, drop, length-append}
use lib.Seq.{take_at, drop_at}
use Rattle.bench.specs.declared.Bench.{Bench}
use Rattle.bench.specs.State.{Present, nothing, SoundPresent, limits, LimitsFit}
use Rattle.bench.specs.Held.{empty_bench, bench_of, Stands}
use Rattle.bench.specs.Run.{Call, after_call, present_from}
use Rattle.bench.proofs.SoundLaws.{sound_call}
use Rattle.bench.proofs.RunLaws.{AllCallable, empty_stands}
use Rattle.bench.proofs.Unique.{one_present}
use Rattle.text.specs.Places.{head_word, tail_words, same_list}
use Rattle.text.specs.Numbers.{number_in, hex_bytes}
use Rattle.text.proofs.Putting.{counted}
use Rattle.script.specs.Order.{Order, silent, unreadable, ask_new, ask_report, ask_gate, ask_output, ask_entry, ask_limits, ask_sweep, ask_append, ask_store, ask_held, ask_show, ask_hint, ask_build, ask_late, ask_distance, ask_equations}
use Rattle.script.specs.Reading.{Rest, on_value, number, number_or_zero, limit, is_hex, hex, matrix_word, table_word, kind, no_more, Table, by_word, ask_open, open_rest, gate_rest, output_rest, entry_rest, append_rest, hint_rest, build_rest, late_rest, distance_rest, equations_rest, bytes_calls, edit_calls, calls, order_in}
use Rattle.talk.specs.declared.Told.{Told}
use Rattle.talk.specs.Talk.{Deed, clearing, calling, deed_of, present_by, present_after_line, present_after_lines, text_of, written, Answers}

-- the limits that a deed brings, if any, can be held
abbrev pub DeedFits : Deed → Type 0
DeedFits clearing = Unit {0}
DeedFits (calling calls) = AllCallable calls

-- those of an order, by a name that shows it
pub record Limited (o : Order) : Type 0 where
  pub fits : DeedFits (deed_of o)

-- ---- what a line asks is limited, word by word

-- either of two orders
either : (t : Bool) {x y : Order} → Limited x → Limited y → Limited (cond t x y)
either true p q = p
either false p q = q

-- a line that is no call
none : Limited unreadable
none = record { fits = tt }

-- what the rest of a line asks is limited, whatever it is
abbrev Good : Rest → Type 0
Good f = (s : List ℕ) → Limited (f s)

-- by a number's value
by_value : (n : Option ℕ) {f : ℕ → Order} → ((v : ℕ) → Limited (f v)) → Limited (on_value n f)
by_value (Some v) p = p v
by_value None p = none

-- after a number
good_number : (f : ℕ → Rest) → ((v : ℕ) → Good (f v)) → Good (number f)
unfolding number
good_number f p s = by_value (number_in (head_word s)) (λ v. p v (tail_words s))

-- after a number that may be left out
good_or_zero : (f : ℕ → Rest) → ((v : ℕ) → Good (f v)) → Good (number_or_zero f)
unfolding number_or_zero
good_or_zero f p s = either (ltb 0 (length (head_word s))) (good_number f p s) (p 0 s)

-- after a byte
byte_only : (v : ℕ) {x : Order} → (v ≤ 255 → Limited x) → Limited (cond (leb v 255) x unreadable)
byte_only v {x} p = go (leb v 255) refl where
  go : (t : Bool) → leb v 255 ≡ t → Limited (cond t x unreadable)
  go true e = p (leb-true v 255 e)
  go false e = none

good_limit : (f : ℕ → Rest) → ((v : ℕ) → v ≤ 255 → Good (f v)) → Good (limit f)
unfolding limit
good_limit f p = good_number (λ (v : ℕ) (s : List ℕ). cond (leb v 255) (f v s) unreadable) (λ v s. byte_only v (λ h. p v h s))

-- after bytes
good_hex : (f : List ℕ → Rest) → ((bytes : List ℕ) → Good (f bytes)) → Good (hex f)
unfolding hex
good_hex f p s = either (is_hex (head_word s)) (p (hex_bytes (head_word s)) (tail_words s)) none

-- after a target's kind
good_kind : (f : Bool → Rest) → ((t : Bool) → Good (f t)) → Good (kind f)
unfolding kind
good_kind f p s = either (same_list (head_word s) matrix_word) (p true (tail_words s)) (either (same_list (head_word s) table_word) (p false (tail_words s)) none)

-- after the last word
good_end : (o : Order) → DeedFits (deed_of o) → Good (no_more o)
unfolding no_more
good_end o p s = either (ltb 0 (length (head_word s))) none (record { fits = p })

-- each row of a table of calls
abbrev GoodRows : Table → Type 0
GoodRows [] = Unit {0}
GoodRows (row ∷ rows) = Good row.1 × GoodRows rows

-- after the first word
good_word : (rows : Table) (w : List ℕ) → GoodRows rows → Good (by_word rows w)
unfolding by_word
good_word [] w p s = none
good_word (row ∷ rows) w p s = either (same_list w row.0) (p.0 s) (good_word rows w p.1 s)

-- three limits
three : (f : ℕ → ℕ → ℕ → Order) → ((g d a : ℕ) → LimitsFit (limits g d a) → DeedFits (deed_of (f g d a)))
    → Good (limit (λ g. limit (λ d. limit (λ a. no_more (f g d a)))))
three f p =
    good_limit _ (λ g x. good_limit _ (λ d y. good_limit _ (λ a z.
    good_end (f g d a) (p g d a (record { gates = omega arith; depth = omega arith; and_depth = omega arith })))))

-- an open of either kind
open_fits : (t : Bool) (bytes target : List ℕ) (g d a : ℕ) → LimitsFit (limits g d a) → DeedFits (deed_of (ask_open t bytes target g d a))
open_fits true bytes target g d a h = (h, tt)
open_fits false bytes target g d a h = (h, tt)

-- `open`, `build`, `late`, `distance` and `equations`
good_open : Good open_rest
good_open = good_hex _ (λ bytes. good_kind _ (λ t. good_hex _ (λ target. three (ask_open t bytes target) (open_fits t bytes target))))

good_build : Good build_rest
good_build = good_number _ (λ n. good_hex _ (λ rows. good_number _ (λ d. good_number _ (λ room. good_end (ask_build n rows d room) tt))))

good_late : Good late_rest
good_late =
    good_number _ (λ n. good_hex _ (λ arrivals. good_hex _ (λ rows. good_hex _ (λ limits. good_number _ (λ room.
    good_end (ask_late n arrivals rows limits room) tt)))))

good_distance : Good distance_rest
good_distance =
    good_number _ (λ n. good_hex _ (λ masks. good_hex _ (λ depths. good_number _ (λ t. good_number _ (λ d. good_end (ask_distance n masks depths t d) tt)))))

good_equations : Good equations_rest
good_equations = good_hex _ (λ file. good_number _ (λ room. good_end (ask_equations file room) tt))

-- `gate`, `output`, `entry` and `append`
good_gate : Good gate_rest
good_gate = good_number _ (λ k. good_number _ (λ t. good_number _ (λ a. good_number _ (λ b. good_end (ask_gate k t a b) (tt, tt)))))

good_output : Good output_rest
good_output = good_number _ (λ j. good_number _ (λ line. good_end (ask_output j line) (tt, tt)))

good_entry : Good entry_rest
good_entry = good_number _ (λ i. good_number _ (λ value. good_or_zero _ (λ constant. good_end (ask_entry i value constant) (tt, tt))))

good_append : Good append_rest
good_append = good_number _ (λ t. good_number _ (λ a. good_number _ (λ b. good_end (ask_append t a b) (tt, tt))))

-- `hint`
good_hint : Good hint_rest
good_hint = good_number _ (λ row. good_number _ (λ d. good_end (ask_hint row d) tt))

-- all calls
good_bytes : GoodRows bytes_calls
good_bytes = (good_open, (good_number _ (λ room. good_end (ask_store room) (tt, tt)), (good_build, (good_late, (good_distance, (good_equations, tt))))))

good_edits : GoodRows edit_calls
good_edits = (good_gate, (good_output, (good_entry, (three ask_limits (λ g d a h. (h, tt)), (good_append, good_bytes)))))

good_calls : GoodRows calls
good_calls = (good_end ask_new tt, (good_end ask_report (tt, tt), (good_end ask_held tt, (good_end ask_show tt, (good_end ask_sweep (tt, tt), (good_hint, good_edits))))))

-- every line
pub line-limited : (line : List ℕ) → Limited (order_in line)
unfolding order_in
line-limited line =
    let quiet : Limited silent = record { fits = tt } in
    either (ltb 65535 (length line)) none
    (either (ltb 0 (length (head_word line))) (either (eqb (get_or line 0 0) 35) quiet (good_word calls (head_word line) good_calls (tail_words line))) quiet)

-- ---- the bench after a line stands for what is present after it

-- some calls keep what is present sound
sound_calls : (p : Present) (calls : List Call) → AllCallable calls → SoundPresent p → SoundPresent (present_from p calls)
sound_calls p [] l ok = ok
sound_calls p (call ∷ calls) l ok = sound_calls (after_call p call) calls l.1 (sound_call p call l.0 ok)

-- and so does every deed
sound_deed : (p : Present) (d : Deed) → DeedFits d → SoundPresent p → SoundPresent (present_by p d)
sound_deed p clearing l ok = tt
sound_deed p (calling calls) l ok = sound_calls p calls l ok

-- and so the promise goes on
pub stands_after : (b : Bench) (p : Present) → Stands b p → (line out after : List ℕ) (r : Told) → Answers b (order_in line) out after r
    → Stands r.bench (present_after_line p (order_in line))
stands_after b p k line out after r f = record { sound = sound_deed p (deed_of (order_in line)) (line-limited line).fits k.sound; is = f.bench p k }

-- ---- a session: for each line a result that meets the promise on the bench that the line before left, its answer written, and the bench after the last

pub data Session : Bench → List (List ℕ) → List ℕ → Bench → Type 0 where
  over : {b : Bench} → Session b [] [] b
  next : {b last : Bench} {line : List ℕ} {lines : List (List ℕ)} {text : List ℕ} (out after : List ℕ) (r : Told)
      → Answers b (order_in line) out after r → Session r.bench lines text last → Session b (line ∷ lines) (take r.len after ++ text) last

-- on a bench that stands for p: what is written, and what the last bench stands for
pub session_writes : {b last : Bench} {lines : List (List ℕ)} {text : List ℕ} (p : Present) → Stands b p → Session b lines text last
    → (text ≡ written p lines) × Stands last (present_after_lines p lines)
session_writes p k over = (refl, k)
session_writes p k (next {b} {line} out after r f more) =
    let rest = session_writes (present_after_line p (order_in line)) (stands_after b p k line out after r f) more in
    (ap₂ (λ (x y : List ℕ). x ++ y) (f.text p k) rest.0, rest.1)

-- from an empty bench on
pub session_from_empty : {lines : List (List ℕ)} {text : List ℕ} {b : Bench} → Session empty_bench lines text b
    → (text ≡ written nothing lines) × Stands b (present_after_lines nothing lines)
session_from_empty s = session_writes nothing empty_stands s

-- ---- whatever is typed, a session can be held

-- there is a result that meets the promise, in any room
answer_exists : (b : Bench) (p : Present) → Stands b p → (o : Order) (out : List ℕ) → let text = text_of p o in
    Answers b o out (text ++ drop (length text) out) (record { bench = bench_of (present_after_line p o); len = length text })
answer_exists b p k o out =
    let text = text_of p o in
    let rest = drop (length text) out in
    record {
      counts = counted (length text) (text ++ rest) (omega (arith, length-append text rest));
      rest = drop_at text rest (length text) refl;
      bench = λ q l. ap (λ (x : Present). bench_of (present_after_line x o)) (one_present b p q k l);
      text = λ q l. take_at text rest (length text) refl ∙ ap (λ (x : Present). text_of x o) (one_present b p q k l);
    }

session_exists : (b : Bench) (p : Present) → Stands b p → (lines : List (List ℕ)) → (text : List ℕ) × ((last : Bench) × Session b lines text last)
session_exists b p k [] = ([], (b, over))
session_exists b p k (line ∷ lines) =
    let q = present_after_line p (order_in line) in
    let r : Told = record { bench = bench_of q; len = length (text_of p (order_in line)) } in
    let f = answer_exists b p k (order_in line) [] in
    let rest = session_exists (bench_of q) q (stands_after b p k line [] _ r f) lines in
    (_, (rest.1.0, next [] _ r f rest.1.1))

pub sessions_go_on : (lines : List (List ℕ)) → (text : List ℕ) × ((b : Bench) × Session empty_bench lines text b)
sessions_go_on lines = session_exists empty_bench nothing empty_stands lines

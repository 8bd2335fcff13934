-- What is typed is a sequence of calls: lines leave present what their calls since the last `new` leave, and the bench is one that those calls yield.
-- Assumes nothing.
use mathlib.Core.Path.{◌≡◌, refl, ap, ◌∙◌, sym, subst}
use mathlib.Core.List.{List, [], ◌∷◌, ◌++◌}
use Prim.Native.Nat.{ℕ}
use Rattle.bench.specs.declared.Bench.{Bench}
use Rattle.bench.specs.State.{Present, nothing}
use Rattle.bench.specs.Held.{empty_bench, bench_of}
use Rattle.bench.specs.Run.{Call, present_after, Runs}
use Rattle.bench.proofs.RunLaws.{AllCallable, present_append, after-calls, runs_exist}
use Rattle.script.specs.Order.{Order, ask_new}
use Rattle.script.specs.Reading.{order_in}
use Rattle.talk.specs.Talk.{Deed, clearing, calling, deed_of, present_by, present_after_lines, calls_by, calls_on, calls_typed}
use Rattle.talk.proofs.Sessions.{DeedFits, line-limited, Session, session_from_empty}

-- ---- what is present

-- after one deed more
deed_present : (made : List Call) (d : Deed) → present_by (present_after made) d ≡ present_after (calls_by made d)
deed_present made clearing = refl
deed_present made (calling calls) = sym (present_append nothing made calls)

-- after some lines more
lines_present : (made : List Call) (lines : List (List ℕ)) → present_after_lines (present_after made) lines ≡ present_after (calls_on made lines)
lines_present made [] = refl
lines_present made (line ∷ lines) =
    ap (λ (p : Present). present_after_lines p lines) (deed_present made (deed_of (order_in line))) ∙ lines_present (calls_by made (deed_of (order_in line))) lines

-- after lines that are typed on an empty bench
pub typed_present : (lines : List (List ℕ)) → present_after_lines nothing lines ≡ present_after (calls_typed lines)
typed_present lines = lines_present [] lines

-- ---- `new`: what was typed before it counts no more

forgets : (made : List Call) (before : List (List ℕ)) (line : List ℕ) (since : List (List ℕ)) → order_in line ≡ ask_new
    → calls_on made (before ++ line ∷ since) ≡ calls_typed since
forgets made [] line since e = ap (λ (o : Order). calls_on (calls_by made (deed_of o)) since) e
forgets made (first ∷ before) line since e = forgets (calls_by made (deed_of (order_in first))) before line since e

pub since_new : (before : List (List ℕ)) (line : List ℕ) (since : List (List ℕ)) → order_in line ≡ ask_new
    → calls_typed (before ++ line ∷ since) ≡ calls_typed since
since_new before line since e = forgets [] before line since e

-- ---- the limits that are typed can be held

all_append : (made calls : List Call) → AllCallable made → AllCallable calls → AllCallable (made ++ calls)
all_append [] calls u v = v
all_append (call ∷ made) calls u v = (u.0, all_append made calls u.1 v)

deed_callable : (made : List Call) (d : Deed) → AllCallable made → DeedFits d → AllCallable (calls_by made d)
deed_callable made clearing u v = tt
deed_callable made (calling calls) u v = all_append made calls u v

lines_callable : (made : List Call) (lines : List (List ℕ)) → AllCallable made → AllCallable (calls_on made lines)
lines_callable made [] u = u
lines_callable made (line ∷ lines) u =
    lines_callable (calls_by made (deed_of (order_in line))) lines (deed_callable made (deed_of (order_in line)) u (line-limited line).fits)

pub typed_callable : (lines : List (List ℕ)) → AllCallable (calls_typed lines)
typed_callable lines = lines_callable [] lines tt

-- ---- the bench after a session is one that the calls yield: there is such a bench, and both are the bench of what is present

pub session_runs : {lines : List (List ℕ)} {text : List ℕ} {b : Bench} → Session empty_bench lines text b → Runs empty_bench (calls_typed lines) b
session_runs {lines} {text} {b} s =
    let run = runs_exist (calls_typed lines) (typed_callable lines) in
    let same : run.0 ≡ b = (after-calls run.1).is ∙ ap bench_of (sym (typed_present lines)) ∙ sym (session_from_empty s).1.is in
    subst (λ (x : Bench). Runs empty_bench (calls_typed lines) x) same run.1

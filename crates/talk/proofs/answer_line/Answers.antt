-- `talk::answer_line` meets its contract. Assumes nothing.
use mathlib.Core.Path.{◌≡◌, refl, ap, sym, ◌∙◌, subst}
use Rattle.script.specs.declared.Call.{Call}
use Rattle.script.specs.Order.{order_of}
use Rattle.script.specs.Reading.{order_in}
use Rattle.script.specs.Placed.{Placed}
use Rattle.talk.proofs.Spoken.{silent_said}
use Rattle.talk.proofs.Telling.{answers, answers_as}
use Rattle.talk.proofs.answer_line.Goals as goal
use Rattle.talk.proofs.answer_line.Goals.{After-call_in-call}

-- what a call that was found asks, and where its parts stand
asked : (q : After-call_in-call) (call : Call) → q.call_in-call.result ≡ call → let line = q.args.line.now in order_of line call ≡ order_in line
asked q call e = ap (order_of q.args.line.now) (sym e) ∙ q.call_in-call.ensures.meaning

placed : (q : After-call_in-call) (call : Call) → q.call_in-call.result ≡ call → Placed q.args.line.now call
placed q call e = subst (Placed q.args.line.now) e q.call_in-call.ensures.places

pub tell_open-requires : goal.tell_open-requires
tell_open-requires c = placed (goal.at.tell_open-requires c).After-call_in-call _ c.in-OpenMatrix.is

pub tell_open-requires-in-OpenTable : goal.tell_open-requires-in-OpenTable
tell_open-requires-in-OpenTable c = placed (goal.at.tell_open-requires-in-OpenTable c).After-call_in-call _ c.in-OpenTable.is

pub tell_build-requires : goal.tell_build-requires
tell_build-requires c = placed (goal.at.tell_build-requires c).After-call_in-call _ c.in-Build.is

pub tell_late-requires : goal.tell_late-requires
tell_late-requires c = placed (goal.at.tell_late-requires c).After-call_in-call _ c.in-Late.is

pub tell_distance-requires : goal.tell_distance-requires
tell_distance-requires c = placed (goal.at.tell_distance-requires c).After-call_in-call _ c.in-Distance.is

pub tell_equations-requires : goal.tell_equations-requires
tell_equations-requires c = placed (goal.at.tell_equations-requires c).After-call_in-call _ c.in-Equations.is

pub returns-in-Silent : goal.returns-in-Silent
returns-in-Silent c = answers_as (asked (goal.at.returns-in-Silent c).After-call_in-call _ c.in-Silent.is) (answers _ (silent_said _) (λ p k. (k.is, refl)))

pub returns-in-Unreadable : goal.returns-in-Unreadable
returns-in-Unreadable c = answers_as (asked (goal.at.returns-in-Unreadable c).After-call_in-call _ c.in-Unreadable.is) c.tell_unreadable.ensures

pub returns-in-New : goal.returns-in-New
returns-in-New c = answers_as (asked (goal.at.returns-in-New c).After-call_in-call _ c.in-New.is) c.tell_new.ensures

pub returns-in-OpenMatrix : goal.returns-in-OpenMatrix
returns-in-OpenMatrix c = answers_as (asked (goal.at.returns-in-OpenMatrix c).After-call_in-call _ c.in-OpenMatrix.is) c.tell_open.ensures

pub returns-in-OpenTable : goal.returns-in-OpenTable
returns-in-OpenTable c = answers_as (asked (goal.at.returns-in-OpenTable c).After-call_in-call _ c.in-OpenTable.is) c.tell_open-in-OpenTable.ensures

pub returns-in-Report : goal.returns-in-Report
returns-in-Report c = answers_as (asked (goal.at.returns-in-Report c).After-call_in-call _ c.in-Report.is) c.tell_report.ensures

pub returns-in-Gate : goal.returns-in-Gate
returns-in-Gate c = answers_as (asked (goal.at.returns-in-Gate c).After-call_in-call _ c.in-Gate.is) c.tell_gate.ensures

pub returns-in-Output : goal.returns-in-Output
returns-in-Output c = answers_as (asked (goal.at.returns-in-Output c).After-call_in-call _ c.in-Output.is) c.tell_output.ensures

pub returns-in-Entry : goal.returns-in-Entry
returns-in-Entry c = answers_as (asked (goal.at.returns-in-Entry c).After-call_in-call _ c.in-Entry.is) c.tell_entry.ensures

pub returns-in-Limits : goal.returns-in-Limits
returns-in-Limits c = answers_as (asked (goal.at.returns-in-Limits c).After-call_in-call _ c.in-Limits.is) c.tell_limits.ensures

pub returns-in-Sweep : goal.returns-in-Sweep
returns-in-Sweep c = answers_as (asked (goal.at.returns-in-Sweep c).After-call_in-call _ c.in-Sweep.is) c.tell_sweep.ensures

pub returns-in-Append : goal.returns-in-Append
returns-in-Append c = answers_as (asked (goal.at.returns-in-Append c).After-call_in-call _ c.in-Append.is) c.tell_append.ensures

pub returns-in-Store : goal.returns-in-Store
returns-in-Store c = answers_as (asked (goal.at.returns-in-Store c).After-call_in-call _ c.in-Store.is) c.tell_store.ensures

pub returns-in-Held : goal.returns-in-Held
returns-in-Held c = answers_as (asked (goal.at.returns-in-Held c).After-call_in-call _ c.in-Held.is) c.tell_held.ensures

pub returns-in-Show : goal.returns-in-Show
returns-in-Show c = answers_as (asked (goal.at.returns-in-Show c).After-call_in-call _ c.in-Show.is) c.tell_show.ensures

pub returns-in-Hint : goal.returns-in-Hint
returns-in-Hint c = answers_as (asked (goal.at.returns-in-Hint c).After-call_in-call _ c.in-Hint.is) c.tell_hint.ensures

pub returns-in-Build : goal.returns-in-Build
returns-in-Build c = answers_as (asked (goal.at.returns-in-Build c).After-call_in-call _ c.in-Build.is) c.tell_build.ensures

pub returns-in-Late : goal.returns-in-Late
returns-in-Late c = answers_as (asked (goal.at.returns-in-Late c).After-call_in-call _ c.in-Late.is) c.tell_late.ensures

pub returns-in-Distance : goal.returns-in-Distance
returns-in-Distance c = answers_as (asked (goal.at.returns-in-Distance c).After-call_in-call _ c.in-Distance.is) c.tell_distance.ensures

pub returns-in-Equations : goal.returns-in-Equations
returns-in-Equations c = answers_as (asked (goal.at.returns-in-Equations c).After-call_in-call _ c.in-Equations.is) c.tell_equations.ensures

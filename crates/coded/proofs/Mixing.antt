-- A sequence of calls that give their answers as they are or as numbers is one of calls that give them as they are. Assumes nothing.
use Rattle.circuit.specs.Rules.{done}
use mathlib.Core.Path.{◌≡◌}
use mathlib.Core.Logic.{inl, inr}
use mathlib.Core.List.{List, ◌∷◌}
use Prim.Native.Nat.{ℕ}
use Rattle.targets.specs.Target.{Brought}
use Rattle.bench.specs.declared.Bench.{Bench}
use Rattle.bench.specs.State.{Limits, Present, nothing}
use Rattle.bench.specs.Held.{empty_bench, Stands}
use Rattle.bench.specs.Calls.{open_answer, as_they_are}
use Rattle.bench.specs.Run.{Call, after_call, Step, RunsBy, Runs}
use Rattle.bench.specs.Run.Call.{opening}
use Rattle.bench.proofs.RunLaws.{step_stands, step_otherwise, open_otherwise, empty_stands}
use Rattle.coded.specs.Coded.{EitherStep, MixedRuns}

-- a call on a bench that stands for something
as_step : {b next : Bench} {call : Call} (p : Present) → Stands b p → EitherStep b call next → Step b call next
as_step p k (inl step) = step
as_step p k (inr step) = step_otherwise as_they_are p k step

-- calls, from a bench that stands for something
pub mixed_runs : {b last : Bench} {calls : List Call} (p : Present) → Stands b p → MixedRuns b calls last → Runs b calls last
mixed_runs p k RunsBy.none = RunsBy.none
mixed_runs p k (RunsBy.more {call} mid step rest) =
    let here = as_step p k step in
    RunsBy.more mid here (mixed_runs (after_call p call) (step_stands p k here) rest)

-- an accepted open on any bench, whatever it holds
as_opened : {b next : Bench} {bytes : List ℕ} {t : Brought} {l : Limits} → open_answer bytes t ≡ done
    → EitherStep b (opening bytes t l) next → Step empty_bench (opening bytes t l) next
as_opened e (inl step) = open_otherwise as_they_are empty_bench e step
as_opened e (inr step) = open_otherwise as_they_are empty_bench e step

-- calls that begin with one
pub mixed_anywhere : {b last : Bench} {bytes : List ℕ} {t : Brought} {l : Limits} {calls : List Call} → open_answer bytes t ≡ done
    → MixedRuns b (opening bytes t l ∷ calls) last → Runs empty_bench (opening bytes t l ∷ calls) last
mixed_anywhere {bytes} {t} {l} e (RunsBy.more mid step rest) =
    let here = as_opened e step in
    RunsBy.more mid here (mixed_runs (after_call nothing (opening bytes t l)) (step_stands nothing empty_stands here) rest)

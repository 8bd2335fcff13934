-- A sequence of calls: what is present after it by the definition, and what it may make of a bench by the promises of the functions.
use Rattle.std.specs.Prelude.{List, [], ◌∷◌, ℕ}
use Rattle.targets.specs.Target.{Brought}
use Rattle.bench.specs.declared.Bench.{Bench}
use Rattle.bench.specs.State.{Limits, LimitsFit, Present, nothing}
use Rattle.bench.specs.Calls.{after_open, after_gate, after_output, after_entry, after_limits, after_sweep, after_append, View, as_they_are, OpenGiven, GateGiven, OutputGiven, EntryGiven, LimitsGiven, SweepGiven, AppendGiven, ReportGiven, StoreGiven}

-- the calls, with what each is given: stored bytes, a target of either kind and limits; gate, kind and operands; output and
-- line; entry, value and constant; limits; nothing; kind and operands; nothing; and the room that is lent
pub data Call : Type 0 where
  opening : List ℕ → Brought → Limits → Call
  replacing : ℕ → ℕ → ℕ → ℕ → Call
  pointing : ℕ → ℕ → Call
  changing : ℕ → ℕ → ℕ → Call
  limiting : Limits → Call
  sweeping : Call
  appending : ℕ → ℕ → ℕ → Call
  reporting : Call
  storing : List ℕ → Call

-- what is present after a call
abbrev pub after_call : Present → Call → Present
after_call p (opening bytes t l) = after_open p bytes t l
after_call p (replacing k kind a b) = after_gate p k kind a b
after_call p (pointing j line) = after_output p j line
after_call p (changing i value constant) = after_entry p i value constant
after_call p (limiting l) = after_limits p l
after_call p sweeping = after_sweep p
after_call p (appending kind a b) = after_append p kind a b
after_call p reporting = p
after_call p (storing room) = p

-- what is present after some calls: the accepted ones applied in order
abbrev pub present_from : Present → List Call → Present
present_from p [] = p
present_from p (call ∷ calls) = present_from (after_call p call) calls

-- the same from a bench with nothing open
abbrev pub present_after : List Call → Present
present_after calls = present_from nothing calls

-- one call on a bench, with some answer: what is known of the bench after it is the function's promise; report and store
-- take the bench by value, and the caller's is as it was
pub data StepGiven (v : View) (b : Bench) : Call → Bench → Type 0 where
  opened : {bytes : List ℕ} {t : Brought} {l : Limits} {next : Bench} (answer : v.Answers)
      → LimitsFit l → OpenGiven v b bytes t l answer next → StepGiven v b (opening bytes t l) next
  replaced : {k kind x y : ℕ} {next : Bench} (edit : v.Edits) → GateGiven v b k kind x y edit next → StepGiven v b (replacing k kind x y) next
  pointed : {j line : ℕ} {next : Bench} (edit : v.Edits) → OutputGiven v b j line edit next → StepGiven v b (pointing j line) next
  changed : {i value constant : ℕ} {next : Bench} (edit : v.Edits) → EntryGiven v b i value constant edit next → StepGiven v b (changing i value constant) next
  limited : {l : Limits} {next : Bench} (edit : v.Edits) → LimitsFit l → LimitsGiven v b l edit next → StepGiven v b (limiting l) next
  swept : {next : Bench} (edit : v.Edits) → SweepGiven v b edit next → StepGiven v b sweeping next
  appended : {kind x y : ℕ} {next : Bench} (edit : v.Edits) → AppendGiven v b kind x y edit next → StepGiven v b (appending kind x y) next
  reported : (r : v.Reports) → ReportGiven v b r → StepGiven v b reporting b
  stored : {room : List ℕ} (r : v.Writings) (out : List ℕ) → StoreGiven v b room r out → StepGiven v b (storing room) b

-- one call with its answer as it is
abbrev pub Step : Bench → Call → Bench → Type 0
Step = StepGiven as_they_are

-- one call after the other, each such a step
pub data RunsBy (step : Bench → Call → Bench → Type 0) : Bench → List Call → Bench → Type 0 where
  none : {b : Bench} → RunsBy step b [] b
  more : {b : Bench} {call : Call} {calls : List Call} (mid : Bench) {last : Bench} → step b call mid → RunsBy step mid calls last → RunsBy step b (call ∷ calls) last

-- the same with the answers as they are
abbrev pub Runs : Bench → List Call → Bench → Type 0
Runs = RunsBy Step

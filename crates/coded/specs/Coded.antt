-- The answers of the calls as numbers, what the calls with such answers promise, and sequences of them.
use Rattle.std.specs.Prelude.{◌≡◌, ◌⊎◌, Result, Ok, Err, List, ℕ, length}
use Rattle.circuit.specs.declared.Refusal.{Refusal}
use Rattle.circuit.specs.Rules.{refusal_no, answer_no}
use Rattle.stored.specs.Writing.{writing_code}
use Rattle.drawing.specs.Drawing.{Drawn, drawn_no, drawn_place, drawn_count, drawn_answer, drawn_room}
use Rattle.targets.specs.Target.{Brought}
use Rattle.bench.specs.declared.Bench.{Bench}
use Rattle.bench.specs.declared.Report.{Report}
use Rattle.bench.specs.declared.Verdict.{Verdict}
use Rattle.bench.specs.declared.Verdict.TheVariants.{Wrong, OverGates, OverDepth, OverAndDepth, Pass}
use Rattle.bench.specs.declared.Opened.{Opened}
use Rattle.bench.specs.declared.Edited.{Edited}
use Rattle.bench.specs.State.{Limits}
use Rattle.bench.specs.Calls.{Edit, listed_in, View, OpenGiven, GateGiven, OutputGiven, EntryGiven, LimitsGiven, SweepGiven, AppendGiven, ReportGiven, StoreGiven}
use Rattle.bench.specs.Run.{Call, StepGiven, Step, RunsBy}
use Rattle.coded.specs.declared.Opened.{Opened as OpenedNumbers}
use Rattle.coded.specs.declared.Edited.{Edited as EditedNumbers}
use Rattle.coded.specs.declared.EditNumbers.{EditNumbers}
use Rattle.coded.specs.declared.ReportNumbers.{ReportNumbers}
use Rattle.coded.specs.declared.VerdictNumbers.{VerdictNumbers}
use Rattle.coded.specs.declared.ReadingNumbers.{ReadingNumbers}

-- an edit's answer in numbers: 0 or the refusal's, the count, the lines
abbrev pub edit_code : Edit → EditNumbers
edit_code e = record { refusal = answer_no e; count = (listed_in e).count; lines = (listed_in e).lines }

-- the bench beside an answer in numbers
unfoldable pub open_coded : Opened → OpenedNumbers
open_coded r = record { bench = r.bench; refusal = answer_no r.answer }

-- the same of an edit
unfoldable pub edit_coded : Edited → EditedNumbers
edit_coded r = record { bench = r.bench; edit = edit_code r.edit }

-- a verdict's number, and its place
abbrev pub verdict_code : Verdict → VerdictNumbers
verdict_code (Wrong p) = record { verdict = 1; input = p.input; output = p.output }
verdict_code OverGates = record { verdict = 2; input = 0; output = 0 }
verdict_code OverDepth = record { verdict = 3; input = 0; output = 0 }
verdict_code OverAndDepth = record { verdict = 4; input = 0; output = 0 }
verdict_code Pass = record { verdict = 0; input = 0; output = 0 }

-- a report in numbers
abbrev pub report_code : Report → ReportNumbers
report_code r =
    let v = verdict_code r.verdict in
    record {
      refusal = 0;
      gates = r.gates;
      xors = r.counts.xors;
      nonlinear = r.counts.nonlinear;
      nots = r.counts.nots;
      depth = r.depth;
      ands = r.and_depth;
      verdict = v.verdict;
      input = v.input;
      output = v.output;
    }

-- no report, and the refusal's number
abbrev pub refused_code : ℕ → ReportNumbers
refused_code n = record { refusal = n; gates = 0; xors = 0; nonlinear = 0; nots = 0; depth = 0; ands = 0; verdict = 0; input = 0; output = 0 }

-- what a report answers, in numbers
abbrev pub reported_code : Result Report Refusal → ReportNumbers
reported_code (Ok r) = report_code r
reported_code (Err w) = refused_code (refusal_no w)

-- what reading an equation file answers, in numbers: 0 or the refusal's, the count, the place
abbrev pub drawn_code : Drawn → ReadingNumbers
drawn_code d = record { refusal = drawn_no d; count = drawn_count d; place = drawn_place d }

-- each answer as numbers; of storing: how many bytes, or 65,536 times the refusal's number
abbrev pub as_numbers : View
as_numbers =
    record {
      Answers = ℕ;
      Edits = EditNumbers;
      Reports = ReportNumbers;
      Writings = ℕ;
      answer = answer_no;
      edit = edit_code;
      report = reported_code;
      writing = writing_code;
    }

-- ---- what the calls promise: as those by value, with each answer as numbers

-- of an open
abbrev pub OpenCode : Bench → List ℕ → Brought → Limits → ℕ → Bench → Type 0
OpenCode = OpenGiven as_numbers

-- of replacing a gate
abbrev pub GateCode : Bench → ℕ → ℕ → ℕ → ℕ → EditNumbers → Bench → Type 0
GateCode = GateGiven as_numbers

-- of pointing an output
abbrev pub OutputCode : Bench → ℕ → ℕ → EditNumbers → Bench → Type 0
OutputCode = OutputGiven as_numbers

-- of changing an entry
abbrev pub EntryCode : Bench → ℕ → ℕ → ℕ → EditNumbers → Bench → Type 0
EntryCode = EntryGiven as_numbers

-- of setting the limits
abbrev pub LimitsCode : Bench → Limits → EditNumbers → Bench → Type 0
LimitsCode = LimitsGiven as_numbers

-- of a sweep
abbrev pub SweepCode : Bench → EditNumbers → Bench → Type 0
SweepCode = SweepGiven as_numbers

-- of appending a gate
abbrev pub AppendCode : Bench → ℕ → ℕ → ℕ → EditNumbers → Bench → Type 0
AppendCode = AppendGiven as_numbers

-- of a report
abbrev pub ReportCodePromise : Bench → ReportNumbers → Type 0
ReportCodePromise = ReportGiven as_numbers

-- of storing
abbrev pub StoreCode : Bench → List ℕ → ℕ → List ℕ → Type 0
StoreCode = StoreGiven as_numbers

-- of reading an equation file, which needs no bench
pub record EquationsCode (s room : List ℕ) (r : ReadingNumbers) (out : List ℕ) : Type 0 where
  pub answer : r ≡ drawn_code (drawn_answer s (length room))
  pub bytes : out ≡ drawn_room s room

-- ---- a sequence of calls

-- one call with its answer as numbers
abbrev pub NumberStep : Bench → Call → Bench → Type 0
NumberStep = StepGiven as_numbers

-- one call with its answer as it is or as numbers
abbrev pub EitherStep : Bench → Call → Bench → Type 0
EitherStep b call next = Step b call next ⊎ NumberStep b call next

-- one call after the other, each with its answer as it is or as numbers
abbrev pub MixedRuns : Bench → List Call → Bench → Type 0
MixedRuns = RunsBy EitherStep

-- A state of the bench, and what a first-time examination of it reports.
use Rattle.circuit.specs.Rules.{done}
use Rattle.std.specs.Prelude.{◌≡◌, Bool, true, cond, not, ℕ, zero, suc, ◌^◌, ◌<◌, ltb, eqb, length}
use Rattle.circuit.specs.Lines.{Listing, output_on, depth_of, and_depth_of, counts_of}
use Rattle.circuit.specs.Rules.{listing_answer}
use Rattle.circuit.specs.Sizes.{held16}
use Rattle.targets.specs.Target.{Target, is_matrix, wants, target_fits}
use Rattle.bench.specs.declared.Verdict.{Verdict}
use Rattle.bench.specs.declared.Verdict.TheVariants.{Wrong, OverGates, OverDepth, OverAndDepth, Pass}
use Rattle.bench.specs.declared.Report.{Report}

-- the three limits; 0 means none allowed
pub record Limits : Type 0 where
  pub gates : ℕ
  pub depth : ℕ
  pub and_depth : ℕ

-- three limits
abbrev pub limits : ℕ → ℕ → ℕ → Limits
limits g d a = record { gates = g; depth = d; and_depth = a }

-- a circuit, a target and three limits
pub record State : Type 0 where
  pub circuit : Listing
  pub target : Target
  pub limits : Limits

-- the state of a circuit, a target and limits. States are made by these functions and written out nowhere else.
abbrev pub state : Listing → Target → Limits → State
state c t l = record { circuit = c; target = t; limits = l }

-- the state with another circuit
abbrev pub with_circuit : State → Listing → State
with_circuit s c = record { circuit = c; target = s.target; limits = s.limits }

-- the state with another target
abbrev pub with_target : State → Target → State
with_target s t = record { circuit = s.circuit; target = t; limits = s.limits }

-- the state with other limits
abbrev pub with_limits : State → Limits → State
with_limits s l = record { circuit = s.circuit; target = s.target; limits = l }

-- what is present on a bench: nothing, or a state
pub data Present : Type 0 where
  nothing : Present
  present : State → Present

-- output j differs from the target on input value x
abbrev pub differs : State → ℕ → ℕ → Bool
differs s x j = not (eqb (output_on s.circuit x j) (wants s.target x j))

-- the least of i, i + 1, .., c of them, at which p holds, or i + c
unfoldable pub least : (ℕ → Bool) → ℕ → ℕ → ℕ
least p zero i = i
least p (suc c) i = let r = least p c (suc i) in cond (p i) i r

-- the smallest output that differs on input value x, or m
abbrev pub first_output : State → ℕ → ℕ
first_output s x = least (differs s x) (length s.circuit.outs) 0

-- the smallest input value with a differing output, or 2^n
abbrev pub first_input : State → ℕ
first_input s = least (λ (x : ℕ). ltb (first_output s x) (length s.circuit.outs)) (2 ^ s.circuit.inputs) 0

-- the verdict, the first that applies, where x is the smallest input value with a differing output
abbrev pub verdict_at : State → ℕ → Verdict
verdict_at s x =
    cond (ltb x (2 ^ s.circuit.inputs)) (Wrong (record { input = x; output = first_output s x }))
    (cond (ltb s.limits.gates (length s.circuit.gates)) OverGates
    (cond (ltb s.limits.depth (depth_of s.circuit)) OverDepth
    (cond (ltb s.limits.and_depth (and_depth_of s.circuit)) OverAndDepth
    Pass)))

-- the state's verdict
unfoldable pub verdict_of : State → Verdict
verdict_of s = verdict_at s (first_input s)

-- the report: the counts are given with each verdict, and unused gates count
unfoldable pub report_of : State → Report
report_of s =
    record {
      gates = length s.circuit.gates;
      counts = counts_of s.circuit;
      depth = depth_of s.circuit;
      and_depth = and_depth_of s.circuit;
      verdict = verdict_of s;
    }

-- limits as they are held: each in 16 bits
pub record LimitsFit (l : Limits) : Type 0 where
  pub gates : l.gates < held16
  pub depth : l.depth < held16
  pub and_depth : l.and_depth < held16

-- a state that keeps every rule: the circuit and the target are ones that no open refuses, and the limits can be held
pub record Sound (s : State) : Type 0 where
  pub circuit : listing_answer (is_matrix s.target) s.circuit ≡ done
  pub target : target_fits s.circuit.inputs (length s.circuit.outs) s.target ≡ true
  pub limits : LimitsFit s.limits

-- what is present keeps every rule
abbrev pub SoundPresent : Present → Type 0
SoundPresent nothing = Unit {0}
SoundPresent (present s) = Sound s

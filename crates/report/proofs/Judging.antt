-- From what a bench holds to the report of its state. Assumes nothing.
use Rattle.std.specs.Prelude.{Result, Ok, Err}
use Rattle.circuit.specs.Rules.{done}
use mathlib.Core.Path.{◌≡◌, refl, ap, ◌∙◌, sym}
use mathlib.Core.Bool.{Bool, true, false, cond, not}
use mathlib.Core.Logic.{⊎_elim}
use mathlib.Core.List.{List, map}
use Prim.Native.Nat.{ℕ, ◌≤◌, ◌<◌, ◌-◌, ◌+◌, ◌^◌}
use native.Mathlib.Omega.{arith}
use borrow.Author.Tests.{lt-ltb, le-ltb}
use lib.Dec.{eqb, ltb}
use lib.Pow.{pow_mono}
use lib.ListN.{length, get_or, take, length-map}
use Rattle.circuit.specs.declared.Words.{Words}
use Rattle.circuit.specs.declared.Tally.{Tally}
use Rattle.circuit.specs.declared.Refusal.{Refusal}
use Rattle.circuit.specs.declared.Refusal.TheVariants.{NothingOpen}
use Rattle.circuit.specs.Gate.{no_words, value_in, tally_of}
use Rattle.circuit.specs.Lines.{Gate, Listing, gate_at, depths, and_depths, words, output_on, overall, depth_of, and_depth_of, padded}
use Rattle.circuit.specs.Rules.{listing_answer}
use Rattle.circuit.specs.Structs.{line_in, held}
use Rattle.circuit.specs.Sizes.{most_inputs, most_outputs, most_gates, most_lines, most_values}
use Rattle.circuit.proofs.LineLaws.{place}
use Rattle.circuit.proofs.Depths.{outs_listed, overall-padded}
use Rattle.circuit.proofs.WordLaws.{words-values}
use Rattle.circuit.proofs.Padding.{pad_read, padded-length, padded-take}
use Rattle.circuit.proofs.RuleLaws.{out_below, circuit_fits}
use Rattle.circuit.proofs.Listed.{line_kept, listed-held}
use Rattle.targets.specs.Target.{is_matrix}
use Rattle.targets.proofs.Wanting.{wanted_at}
use Rattle.bench.specs.declared.Bench.{Bench}
use Rattle.bench.specs.declared.Verdict.{Verdict}
use Rattle.bench.specs.declared.Verdict.TheVariants.{Wrong, OverGates, OverDepth, OverAndDepth, Pass}
use Rattle.bench.specs.declared.Report.{Report}
use Rattle.bench.specs.State.{State, Sound, Present, report_of, differs, least, first_output, first_input, verdict_of}
use Rattle.bench.specs.Held.{full_bench}
use Rattle.bench.specs.Calls.{reported, ReportPromise}
use Rattle.bench.specs.Parts.{open_on}
use Rattle.bench.proofs.Stood.{when-open, when_shut}
use Rattle.report.specs.Judged.{out_words, differences, differs_in, judged_at, judged}
use Rattle.report.proofs.Smallest.{least_same, least_here, least-past, least_from}
use Rattle.report.proofs.Differences.{found_is}

-- ---- the first verdict that applies to a bench

module _ (b : Bench) (depth ands x : ℕ) where
  abbrev Is : Verdict
  Is = judged_at b depth ands x

  pub is_wrong : x < 2 ^ b.n → Wrong (record { input = x; output = least (differs_in b.values b.outputs b.wanted x) b.m 0 }) ≡ Is
  is_wrong h = simp (lt-ltb x (2 ^ b.n) h)

  module _ (right : 2 ^ b.n ≤ x) where
    pub over_gates : b.max_gates < b.g → OverGates ≡ Is
    over_gates h = simp (le-ltb x (2 ^ b.n) right, lt-ltb b.max_gates b.g h)

    module _ (few : b.g ≤ b.max_gates) where
      pub over_depth : b.max_depth < depth → OverDepth ≡ Is
      over_depth h = simp (le-ltb x (2 ^ b.n) right, le-ltb b.max_gates b.g few, lt-ltb b.max_depth depth h)

      module _ (flat : depth ≤ b.max_depth) where
        pub over_ands : b.max_and_depth < ands → OverAndDepth ≡ Is
        over_ands h = simp (le-ltb x (2 ^ b.n) right, le-ltb b.max_gates b.g few, le-ltb b.max_depth depth flat, lt-ltb b.max_and_depth ands h)

        pub passes : ands ≤ b.max_and_depth → Pass ≡ Is
        passes h = simp (le-ltb x (2 ^ b.n) right, le-ltb b.max_gates b.g few, le-ltb b.max_depth depth flat, le-ltb b.max_and_depth ands h)

-- ---- on the bench of a state

-- a bench of a state differs where the state does
differs_is : (s : State) → Sound s → (x j : ℕ) → x < most_values → j < length s.circuit.outs
    → let b = full_bench s in differs_in b.values b.outputs b.wanted x j ≡ differs s x j
unfolding full_bench
differs_is s ok x j hx hj =
    let c = s.circuit in
    let f = circuit_fits (is_matrix s.target) c ok.circuit in
    let g = length c.gates in
    let ws = words c.inputs (gate_at c) g in
    let below = out_below (c.inputs + g) (get_or c.outs j 0) (f.outs j hj) in
    let o = ap line_in (pad_read c.outs (most_outputs - length c.outs) j 0) ∙ line_kept (get_or c.outs j 0) (omega (arith, below, f.shape)) in
    let v : value_in (out_words (padded most_lines no_words ws) (padded most_outputs 0 c.outs) j) x ≡ output_on c x j =
    ap (λ (l : ℕ). value_in (get_or (padded most_lines no_words ws) l no_words) x) o
    ∙ ap (λ (w : Words). value_in w x) (pad_read ws (most_lines - length ws) (get_or c.outs j 0) no_words)
    ∙ words-values c.inputs x (gate_at c) g (get_or c.outs j 0) hx f.shape.n_most in
    let t = wanted_at c.inputs (length c.outs) s.target ok.target f.shape.m_most j x hj hx in
    λ i. not (eqb (v i) (t i))

-- what a state's verdict is where no output differs
abbrev pub by_limits : State → Verdict
by_limits s =
    cond (ltb s.limits.gates (length s.circuit.gates)) OverGates
    (cond (ltb s.limits.depth (depth_of s.circuit)) OverDepth
    (cond (ltb s.limits.and_depth (and_depth_of s.circuit)) OverAndDepth
    Pass))

module _ (s : State) (ok : Sound s) where
  few : s.circuit.inputs ≤ most_inputs
  few = (circuit_fits (is_matrix s.target) s.circuit ok.circuit).shape.n_most

  abbrev full : Bench
  full = full_bench s

  abbrev m : ℕ
  m = length s.circuit.outs

  -- the smallest differing output of the bench on input value x
  abbrev out_in : ℕ → ℕ
  out_in x = least (differs_in full.values full.outputs full.wanted x) m 0

  outputs_is : (x : ℕ) → x < most_values → out_in x ≡ first_output s x
  outputs_is x hx = least_same (differs_in full.values full.outputs full.wanted x) (differs s x) m 0 (λ j l u. differs_is s ok x j hx (omega arith))

  -- some output differs on input value x
  abbrev some : ℕ → Bool
  some x = ltb (first_output s x) m

  -- the smallest input value that is set in the words, over all that there may be
  abbrev X : ℕ
  X = least (λ (x : ℕ). eqb (value_in (differences full.values full.outputs full.wanted m) x) 1) most_values 0

  inputs_is : X ≡ least some most_values 0
  inputs_is =
      least_same _ some most_values 0 (λ x l u. found_is full.values full.outputs full.wanted x (omega arith) m
      ∙ ap (λ (j : ℕ). ltb j m) (outputs_is x (omega arith)))

  -- how many input values the circuit has
  abbrev size : ℕ
  size = 2 ^ s.circuit.inputs

  longer : least some most_values 0 ≡ least some (size + (most_values - size)) 0
  longer =
      let h = pow_mono {i = s.circuit.inputs} {j = most_inputs} few in
      let e : most_values ≡ size + (most_values - size) = omega arith in
      ap (λ (k : ℕ). least some k 0) e

  -- so the search over all and the one over 2^n agree: on the input value, or that there is none
  some_found : first_input s < size → X ≡ first_input s
  some_found h = inputs_is ∙ longer ∙ least_here some size (most_values - size) 0 (omega arith)

  none_found : size ≤ first_input s → size ≤ X
  none_found h = omega (arith, inputs_is, longer, least-past some size (most_values - size) 0 (omega arith), least_from some (most_values - size) (0 + size))

  -- the verdict where input value x is the smallest with a differing output, and j the output
  abbrev at : ℕ → ℕ → Verdict
  at x j = cond (ltb x size) (Wrong (record { input = x; output = j })) (by_limits s)

  at_past : (x j : ℕ) → size ≤ x → at x j ≡ by_limits s
  at_past x j h = ap (λ (t : Bool). cond t (Wrong (record { input = x; output = j })) (by_limits s)) (le-ltb x size h)

  pub judged_is : judged full (depth_of s.circuit) (and_depth_of s.circuit) ≡ verdict_of s
  unfolding full_bench judged verdict_of
  judged_is =
      let F = first_input s in
      ⊎_elim
      (λ l. let h = pow_mono {i = s.circuit.inputs} {j = most_inputs} few in
      ap (λ (x : ℕ). at x (out_in x)) (some_found l) ∙ ap (at F) (outputs_is F (omega arith)))
      (λ m. let u : size ≤ F = ⊎_elim (λ e. omega arith) (λ e. omega arith) m in
      at_past X (out_in X) (none_found u) ∙ sym (at_past F (first_output s F) u))
      (place F size)

-- ---- the report

-- the greatest over the lines that the outputs of a bench name, of what is held for each line
abbrev pub at_outputs : Bench → List ℕ → ℕ
at_outputs b ls = overall (map line_in (take b.m b.outputs)) ls

-- on the bench of a state, that is what the circuit as a whole has
at-outputs : (s : State) → listing_answer (is_matrix s.target) s.circuit ≡ done → (ls : List ℕ) → at_outputs (full_bench s) (padded most_lines 0 ls) ≡ overall s.circuit.outs ls
unfolding full_bench
at-outputs s ok ls =
    let c = s.circuit in
    let within = padded-length most_outputs 0 c.outs (circuit_fits (is_matrix s.target) c ok).shape.m_most in
    let named = outs_listed (held c) (omega (arith, within, (circuit_fits (is_matrix s.target) c ok).shape.m_most)) ∙ ap (λ (l : Listing). l.outs) (listed-held (is_matrix s.target) c ok) in
    ap (λ (os : List ℕ). overall os (padded most_lines 0 ls)) named ∙ overall-padded ls c.outs (most_lines - length ls)

-- nothing is given where nothing is open
pub not_given : (b : Bench) → open_on b ≡ false → ReportPromise b (Err NothingOpen)
not_given b o = when_shut (λ (p : Present). Err NothingOpen ≡ reported p) b o (λ e. refl)

-- what is counted and found on a bench is the report of what it stands for
module _ (b : Bench) (counts : Tally) (depth ands : ℕ) (v : Verdict) where
  abbrev made : Result Report Refusal
  made = Ok (record { gates = b.g; counts = counts; depth = depth; and_depth = ands; verdict = v })

  pub given : open_on b ≡ true → counts ≡ tally_of (take b.g b.kinds) → depth ≡ at_outputs b b.depths → ands ≡ at_outputs b b.and_depths
      → v ≡ judged b depth ands → ReportPromise b made
  unfolding full_bench report_of
  given o hc hd ha hv = when-open (λ (p : Present). made ≡ reported p) b o (λ s ok e.
      let c = s.circuit in
      let g = length c.gates in
      let kinds = map (λ (q : Gate). q.kind) c.gates in
      let k = hc ∙ ap (λ (x : Bench). tally_of (take x.g x.kinds)) e ∙ ap tally_of (padded-take most_gates 0 kinds g (sym (length-map c.gates _))) in
      let d = hd ∙ ap (λ (x : Bench). at_outputs x x.depths) e ∙ at-outputs s ok.circuit (depths c.inputs (gate_at c) g) in
      let a = ha ∙ ap (λ (x : Bench). at_outputs x x.and_depths) e ∙ at-outputs s ok.circuit (and_depths c.inputs (gate_at c) g) in
      let w = hv ∙ (λ i. judged (e i) (d i) (a i)) ∙ judged_is s ok in
      λ i. Ok (record { gates = (e i).g; counts = k i; depth = d i; and_depth = a i; verdict = w i }))

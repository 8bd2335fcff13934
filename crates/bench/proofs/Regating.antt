-- A gate set on the bench of a state, one that is there or the next: what the bench holds then, and that reworking the gate's readers
-- gives the bench of the new state. Assumes nothing.
use Rattle.std.specs.Prelude.{Ok, Err}
use Rattle.circuit.specs.Rules.{Answer, done}
use mathlib.Core.Path.{◌≡◌, ap, ◌∙◌, sym, subst}
use mathlib.Core.List.{List}
use Prim.Native.Nat.{ℕ, suc, ◌≤◌, ◌<◌, ◌+◌, ◌%◌, max}
use native.Mathlib.Nat.{mod-eq_of_lt}
use native.Mathlib.Omega.{arith}
use mathlib.Core.Bool.{Bool}
use lib.ListN.{length, get_or, set, replicate}
use lib.Seq.{set-get_or}
use Rattle.circuit.specs.declared.Refusal.{Refusal}
use Rattle.circuit.specs.Gate.{no_words}
use Rattle.circuit.specs.Lines.{Gate, gate, gate_at, with_gates, reach_step}
use Rattle.circuit.specs.Sizes.{most_lines, held16}
use Rattle.circuit.specs.Structs.{column, held}
use Rattle.circuit.proofs.LineLaws.{lines_agree}
use Rattle.circuit.proofs.RuleLaws.{GateFits, CircuitFits}
use Rattle.targets.specs.Target.{is_matrix}
use Rattle.bench.specs.declared.Bench.{Bench}
use Rattle.bench.specs.State.{State, with_circuit, Present}
use Rattle.bench.specs.Held.{full_bench, bench_of, holding, recircuited}
use Rattle.bench.specs.Parts.{gate_on, examined_as, AllBelow, Agree, regated, HeldBut, Reexamined}
use Rattle.bench.specs.Calls.{Edit, after, readers_of, reworking, no_rework, edit_by}
use Rattle.bench.proofs.Standing.{all_below, gate-of, examined_full}

-- ---- what is given by what was looked at

-- a refusal leaves what was present, and reworks nothing
pub refused_given : (x : Answer) (w : Refusal) (marks : List Bool) (s : State) (p : Present) → x ≡ Err w
    → (no_rework (Err w) ≡ edit_by x marks) × (bench_of p ≡ bench_of (after x s p))
refused_given x w marks s p e = (ap (λ (y : Answer). edit_by y marks) (sym e), ap (λ (y : Answer). bench_of (after y s p)) (sym e))

-- an acceptance brings the new state, and reworks the lines that are marked
pub done_given : (x : Answer) (marks : List Bool) (s : State) (p : Present) → x ≡ done
    → (Ok (reworking marks) ≡ edit_by x marks) × (full_bench s ≡ bench_of (after x s p))
done_given x marks s p e = (ap (λ (y : Answer). edit_by y marks) (sym e), ap (λ (y : Answer). bench_of (after y s p)) (sym e))

-- the code stores the low byte and the low 16 bits, which of an accepted gate are the numbers themselves
pub low_gate : (z : Bench) (k line kind a b kind' a' b' : ℕ) (only : Bool) → GateFits only line (gate kind a b) → line ≤ most_lines
    → kind' ≡ kind % 256 → a' ≡ a % held16 → b' ≡ b % held16 → regated z k kind' a' b' ≡ regated z k kind a b
low_gate z k line kind a b kind' a' b' only f h ek ea eb =
    let p = ek ∙ mod-eq_of_lt (omega (arith, f)) in
    let q = ea ∙ mod-eq_of_lt (omega (arith, f)) in
    let r = eb ∙ mod-eq_of_lt (omega (arith, f)) in
    λ i. regated z k (p i) (q i) (r i)

-- the bench with another count of gates
abbrev pub counted : Bench → ℕ → Bench
counted z g = recircuited z (record { n = z.n; m = z.m; g = g; kinds = z.kinds; left = z.left; right = z.right; outputs = z.outputs })

-- ---- what is held

-- a bench that holds what examining some gates gives does so whatever line is left out
pub held_all : (b : Bench) (k : ℕ) (gates : ℕ → Gate) → b ≡ examined_as b gates → HeldBut b k gates
held_all b k gates e =
    record {
      depth = get_or b.depths (b.n + k) 0;
      and_depth = get_or b.and_depths (b.n + k) 0;
      value = get_or b.values (b.n + k) no_words;
      is = (λ i. holding b (set-get_or b.depths (b.n + k) 0 i) (set-get_or b.and_depths (b.n + k) 0 i) (set-get_or b.values (b.n + k) no_words i)) ∙ e;
    }

-- ---- the bench after it, where the state then has the gates qs
module _ (s : State) (k : ℕ) (qs : List Gate) where
  abbrev next : State
  next = with_circuit s (with_gates s.circuit qs)

  -- the bench of the new state, with what was held for the old one's lines
  unfoldable pub stale : Bench
  stale = holding (full_bench next) (full_bench s).depths (full_bench s).and_depths (full_bench s).values

  -- it is the old one with the gate set, where each column is so
  pub regated_is : (q : Gate) → ((f : Gate → ℕ) → set (column f s.circuit.gates) k (f q) ≡ column f qs)
      → max (length s.circuit.gates) (suc k) ≡ length qs → regated (full_bench s) k q.kind q.left q.right ≡ stale
  unfolding full_bench stale
  regated_is q columns l =
      let kinds = columns (λ (q : Gate). q.kind) in
      let left = columns (λ (q : Gate). q.left) in
      let right = columns (λ (q : Gate). q.right) in
      let c = held s.circuit in
      λ i. recircuited (full_bench s) (record { n = c.n; m = c.m; g = l i; kinds = kinds i; left = left i; right = right i; outputs = c.outputs })

  module _ (fits : CircuitFits (is_matrix s.target) next.circuit) where
    -- its gates are the new state's
    pub stale_gate : (j : ℕ) → gate_on stale j ≡ gate_at next.circuit j
    unfolding stale
    stale_gate j = gate-of next fits j

    stale_below : AllBelow stale.n stale.g (gate_on stale)
    unfolding stale full_bench
    stale_below j l =
        subst (λ (q : Gate). (q.left < s.circuit.inputs + j) × (q.right < s.circuit.inputs + j)) (sym (stale_gate j))
        (all_below (is_matrix s.target) next.circuit fits j l)

    -- what the re-examination leaves, where the other lines held what the old gates give
    pub fresh_bench : (old : ℕ → Gate) → Agree k old (gate_at next.circuit) → HeldBut stale k old → (r : Bench) (x : Edit) → Reexamined stale k r x → r ≡ full_bench next
    unfolding stale examined_as
    fresh_bench old agree was r x e = e.fresh stale_below old (λ j ne. stale_gate j ∙ agree j ne) was ∙ examined_full next fits

    -- what it lists
    pub fresh_lines : (r : Bench) (x : Edit) → Reexamined stale k r x → x ≡ Ok (reworking (readers_of next.circuit k))
    unfolding stale full_bench
    fresh_lines r x e =
        e.listed ∙ ap (λ (m : List Bool). Ok (reworking m))
        (lines_agree (reach_step k) _ (replicate s.circuit.inputs _) (gate_at next.circuit) (gate_on stale) (length qs) (λ i h. stale_gate i))

-- Two results that meet the promise of a call are equal, answer, bench and each lent byte, however answers are given: of an open on any bench, of the
-- other calls on a bench that stands for something. And a bench stands for one thing only. Assumes nothing.
use mathlib.Core.Path.{◌≡◌, refl, ap, ◌∙◌, sym}
use mathlib.Core.Bool.{true, cond, true≢false}
use mathlib.Core.List.{List}
use Prim.Native.Nat.{ℕ, ◌+◌, ◌^◌}
use native.Mathlib.Omega.{arith}
use lib.Dec.{leb, eqb}
use lib.ListN.{length, take}
use borrow.Author.Tests.{eqb-true}
use Rattle.circuit.specs.Structs.{listed}
use Rattle.circuit.specs.Lines.{padded}
use Rattle.circuit.specs.Sizes.{most_values}
use Rattle.circuit.proofs.Shapes.{both}
use Rattle.circuit.proofs.Listed.{listed-held}
use Rattle.circuit.proofs.Padding.{padded-take}
use Rattle.targets.specs.Target.{Target, matrix, table, is_matrix, target_bytes, target_fits, Brought, target_by}
use Rattle.targets.proofs.Bytes.{rows_long, brought-back}
use Rattle.bench.specs.declared.Bench.{Bench}
use Rattle.bench.specs.State.{Limits, State, state, Present, nothing, present, Sound}
use Rattle.bench.specs.Held.{empty_bench, full_bench, Stands, circuit_of, limits_of}
use Rattle.bench.specs.Calls.{View, OpenGiven, GateGiven, OutputGiven, EntryGiven, LimitsGiven, SweepGiven, AppendGiven, ReportGiven, StoreGiven}
use Rattle.bench.proofs.StoreLaws.{circuit_of_full}

-- two pairs that are each the same two values
both_same : {A B : Type 0} {x y a : A} {u v b : B} → (x ≡ a) × (u ≡ b) → (y ≡ a) × (v ≡ b) → (x ≡ y) × (u ≡ v)
both_same p q = (p.0 ∙ sym q.0, p.1 ∙ sym q.1)

module _ (v : View) where
  -- an open on any bench, of either kind: `matrix rows` for `open_matrix`, `table entries` for `open_table`
  pub open_unique : (b : Bench) (bytes : List ℕ) (t : Brought) (l : Limits) (r s : v.Answers) (c d : Bench)
      → OpenGiven v b bytes t l r c → OpenGiven v b bytes t l s d → (r ≡ s) × (c ≡ d)
  open_unique b bytes t l r s c d m n = both_same m n

  -- the others on a bench that stands for something
  module _ (b : Bench) (p : Present) (k : Stands b p) where
    pub replace_gate_unique : (g kind x y : ℕ) (r s : v.Edits) (c d : Bench) → GateGiven v b g kind x y r c → GateGiven v b g kind x y s d → (r ≡ s) × (c ≡ d)
    replace_gate_unique g kind x y r s c d m n = both_same (m p k) (n p k)

    pub point_output_unique : (j line : ℕ) (r s : v.Edits) (c d : Bench) → OutputGiven v b j line r c → OutputGiven v b j line s d → (r ≡ s) × (c ≡ d)
    point_output_unique j line r s c d m n = both_same (m p k) (n p k)

    pub change_entry_unique : (i value constant : ℕ) (r s : v.Edits) (c d : Bench) → EntryGiven v b i value constant r c → EntryGiven v b i value constant s d → (r ≡ s) × (c ≡ d)
    change_entry_unique i value constant r s c d m n = both_same (m p k) (n p k)

    pub set-limits_unique : (l : Limits) (r s : v.Edits) (c d : Bench) → LimitsGiven v b l r c → LimitsGiven v b l s d → (r ≡ s) × (c ≡ d)
    set-limits_unique l r s c d m n = both_same (m p k) (n p k)

    pub sweep_unique : (r s : v.Edits) (c d : Bench) → SweepGiven v b r c → SweepGiven v b s d → (r ≡ s) × (c ≡ d)
    sweep_unique r s c d m n = both_same (m p k) (n p k)

    pub append-gate_unique : (kind x y : ℕ) (r s : v.Edits) (c d : Bench) → AppendGiven v b kind x y r c → AppendGiven v b kind x y s d → (r ≡ s) × (c ≡ d)
    append-gate_unique kind x y r s c d m n = both_same (m p k) (n p k)

    pub report_unique : (r s : v.Reports) → ReportGiven v b r → ReportGiven v b s → r ≡ s
    report_unique r s m n = m p k ∙ sym (n p k)

    -- the room is a list, so each byte of it is the same
    pub store_unique : (room : List ℕ) (r s : v.Writings) (out last : List ℕ) → StoreGiven v b room r out → StoreGiven v b room s last → (r ≡ s) × (out ≡ last)
    store_unique room r s out last m n = both_same (m p k) (n p k)

-- ---- a bench stands for one thing only

-- what a bench that holds a state holds it as
abbrev on_bench : Bench → State
on_bench b =
    state (listed (circuit_of b)) (target_by b.is_matrix b.n b.m (take (cond b.is_matrix (b.m + b.m) (2 ^ b.n)) b.target))
    (limits_of b)

target_back : (n m : ℕ) (t : Target) → target_fits n m t ≡ true
    → target_by (is_matrix t) n m (take (cond (is_matrix t) (m + m) (2 ^ n)) (padded most_values 0 (target_bytes t))) ≡ t
unfolding target_fits
target_back n m (matrix rows) f =
    let l = eqb-true (length rows) m (both (eqb (length rows) m) f).0 in
    ap (target_by true n m) (padded-take most_values 0 (target_bytes (matrix rows)) (m + m) (omega (arith, l, rows_long rows))) ∙ brought-back n m (matrix rows) f
target_back n m (table entries) f =
    ap table (padded-take most_values 0 entries (2 ^ n)
    (sym (eqb-true (length entries) (2 ^ n) (both (eqb (length entries) (2 ^ n)) (both (leb m 8) f).1).0)))

back : (s : State) → Sound s → on_bench (full_bench s) ≡ s
unfolding full_bench
back s ok =
    let c = ap listed (circuit_of_full s) ∙ listed-held (is_matrix s.target) s.circuit ok.circuit in
    let t = target_back s.circuit.inputs (length s.circuit.outs) s.target ok.target in
    λ i. state (c i) (t i) s.limits

shut_apart : (s : State) → empty_bench ≡ full_bench s → ⊥
unfolding empty_bench full_bench
shut_apart s e = true≢false (sym (ap (λ (b : Bench). b.is_open) e))

pub one_present : (b : Bench) (p q : Present) → Stands b p → Stands b q → p ≡ q
one_present b nothing nothing k l = refl
one_present b nothing (present s) k l = absurd (shut_apart s (sym k.is ∙ l.is))
one_present b (present s) nothing k l = absurd (shut_apart s (sym l.is ∙ k.is))
one_present b (present s) (present t) k l = ap present (sym (back s k.sound) ∙ ap on_bench (sym k.is ∙ l.is) ∙ back t l.sound)

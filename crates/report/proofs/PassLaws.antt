-- What the verdicts mean, for every state: Pass is given exactly to a circuit that is right and within its limits, and a wrong
-- place is the first there is. Assumes nothing.
use mathlib.Core.Path.{◌≡◌, refl, ap, ◌∙◌, subst}
use mathlib.Core.Bool.{Bool, true, false, cond, not}
use Prim.Native.Nat.{ℕ, ◌≤◌, ◌<◌, ◌+◌, ◌^◌}
use native.Mathlib.Decide.{dec_lt}
use native.Mathlib.Omega.{arith}
use lib.Dec.{ltb}
use lib.ListN.{length}
use borrow.Author.Tests.{not-true, not-false, eqb-true, eqb-false, eq-eqb, ne_eqb, ltb-true, ltb-false, lt-ltb, le-ltb}
use Rattle.circuit.specs.Lines.{output_on, depth_of, and_depth_of}
use Rattle.targets.specs.Target.{wants}
use Rattle.bench.specs.declared.Place.{Place}
use Rattle.bench.specs.declared.Verdict.{Verdict}
use Rattle.bench.specs.declared.Verdict.TheVariants.{Wrong, OverGates, OverDepth, OverAndDepth, Pass}
use Rattle.bench.specs.State.{State, differs, first_output, first_input, verdict_of}
use Rattle.report.proofs.Smallest.{least_holds, least_before, least-none, least_is}
use Rattle.report.proofs.Judging.{by_limits}

-- ---- the statements

-- the circuit gives on every input value what the target wants of every output, within the three limits
pub record Right (s : State) : Type 0 where
  pub equal : (x j : ℕ) → x < 2 ^ s.circuit.inputs → j < length s.circuit.outs → output_on s.circuit x j ≡ wants s.target x j
  pub gates : length s.circuit.gates ≤ s.limits.gates
  pub depth : depth_of s.circuit ≤ s.limits.depth
  pub and_depth : and_depth_of s.circuit ≤ s.limits.and_depth

-- an output differs at a place, none does on a smaller input value, and no smaller one does there
pub record FirstWrong (s : State) (p : Place) : Type 0 where
  pub inside : p.input < 2 ^ s.circuit.inputs
  pub named : p.output < length s.circuit.outs
  pub wrong : output_on s.circuit p.input p.output ≡ wants s.target p.input p.output → ⊥
  pub before : (x j : ℕ) → x < p.input → j < length s.circuit.outs → output_on s.circuit x j ≡ wants s.target x j
  pub above : (j : ℕ) → j < p.output → output_on s.circuit p.input j ≡ wants s.target p.input j

-- ---- a chain of tests

-- it passed, so the first test did not stop it
past : (t : Bool) (v w : Verdict) → (v ≡ Pass → ⊥) → cond t v w ≡ Pass → (t ≡ false) × (w ≡ Pass)
past true v w n h = absurd (n h)
past false v w n h = (refl, h)

-- no limit makes a place wrong
not_wrong : (t u v : Bool) (p : Place) → cond t OverGates (cond u OverDepth (cond v OverAndDepth Pass)) ≡ Wrong p → ⊥
not_wrong true u v p h = let z : ◌≡◌ {A = ℕ} 0 1 = cc in omega arith
not_wrong false true v p h = let z : ◌≡◌ {A = ℕ} 0 1 = cc in omega arith
not_wrong false false true p h = let z : ◌≡◌ {A = ℕ} 0 1 = cc in omega arith
not_wrong false false false p h = let z : ◌≡◌ {A = ℕ} 0 1 = cc in omega arith

placed : (t : Bool) (q p : Place) (v : Verdict) → (v ≡ Wrong p → ⊥) → cond t (Wrong q) v ≡ Wrong p → (t ≡ true) × (q ≡ p)
placed true q p v n h = (refl, cc)
placed false q p v n h = absurd (n h)

-- ---- one input value

module _ (s : State) where
  abbrev m : ℕ
  m = length s.circuit.outs

  abbrev size : ℕ
  size = 2 ^ s.circuit.inputs

  abbrev Same : ℕ → ℕ → Type 0
  Same x j = output_on s.circuit x j ≡ wants s.target x j

  same : (x j : ℕ) → differs s x j ≡ false → Same x j
  same x j e = eqb-true _ _ (not-false _ e)

  not-differs : (x j : ℕ) → Same x j → differs s x j ≡ false
  not-differs x j e = ap not (eq-eqb _ _ e)

  abbrev some : ℕ → Bool
  some x = ltb (first_output s x) m

  -- no output differs on x
  all_same : (x j : ℕ) → some x ≡ false → j < m → Same x j
  all_same x j e h = same x j (least_before (differs s x) m 0 j (omega arith) (omega (arith, ltb-false (first_output s x) m e)))

  none-differs : (x : ℕ) → ((j : ℕ) → j < m → Same x j) → some x ≡ false
  none-differs x h =
      let e : first_output s x ≡ 0 + m = least-none (differs s x) m 0 (λ j l u. not-differs x j (h j (omega arith))) in
      le-ltb (first_output s x) m (omega arith)

  -- no output differs anywhere
  everywhere : size ≤ first_input s → (x j : ℕ) → x < size → j < m → Same x j
  everywhere l x j hx hj = all_same x j (least_before some size 0 x (omega arith) (omega arith)) hj

  -- ---- Pass

  pub pass_right : verdict_of s ≡ Pass → Right s
  unfolding verdict_of
  pass_right h =
      let a = past (ltb (first_input s) size) _ _ (λ e. let z : ◌≡◌ {A = ℕ} 0 1 = cc in omega arith) h in
      let b = past (ltb s.limits.gates (length s.circuit.gates)) _ _ (λ e. let z : ◌≡◌ {A = ℕ} 0 1 = cc in omega arith) a.1 in
      let c = past (ltb s.limits.depth (depth_of s.circuit)) _ _ (λ e. let z : ◌≡◌ {A = ℕ} 0 1 = cc in omega arith) b.1 in
      let d = past (ltb s.limits.and_depth (and_depth_of s.circuit)) _ _ (λ e. let z : ◌≡◌ {A = ℕ} 0 1 = cc in omega arith) c.1 in
      record {
        equal = everywhere (ltb-false (first_input s) size a.0);
        gates = ltb-false _ _ b.0;
        depth = ltb-false _ _ c.0;
        and_depth = ltb-false _ _ d.0;
      }

  pub right_pass : Right s → verdict_of s ≡ Pass
  unfolding verdict_of
  right_pass r =
      let e : first_input s ≡ 0 + size = least-none some size 0 (λ x l u. none-differs x (λ j h. r.equal x j (omega arith) h)) in
      let a = le-ltb (first_input s) size (omega arith) in
      let b = le-ltb s.limits.gates (length s.circuit.gates) r.gates in
      let c = le-ltb s.limits.depth (depth_of s.circuit) r.depth in
      let d = le-ltb s.limits.and_depth (and_depth_of s.circuit) r.and_depth in
      λ i. cond (a i) (Wrong (record { input = first_input s; output = first_output s (first_input s) })) (cond (b i) OverGates (cond (c i) OverDepth (cond (d i) OverAndDepth Pass)))

  -- ---- a wrong place

  -- the first place, where there is one
  first : first_input s < size → FirstWrong s (record { input = first_input s; output = first_output s (first_input s) })
  first h =
      let x = first_input s in
      let j = first_output s x in
      let l = ltb-true j m (least_holds some size 0 (omega arith)) in
      record {
        inside = h;
        named = l;
        wrong = eqb-false _ _ (not-true _ (least_holds (differs s x) m 0 (omega arith)));
        before = λ y k a b. all_same y k (least_before some size 0 y (omega arith) a) b;
        above = λ k a. same x k (least_before (differs s x) m 0 k (omega arith) a);
      }

  pub wrong_first : (p : Place) → verdict_of s ≡ Wrong p → FirstWrong s p
  unfolding verdict_of
  wrong_first p h =
      let no = not_wrong (ltb s.limits.gates (length s.circuit.gates)) (ltb s.limits.depth (depth_of s.circuit)) (ltb s.limits.and_depth (and_depth_of s.circuit)) p in
      let a = placed (ltb (first_input s) size) (record { input = first_input s; output = first_output s (first_input s) }) p (by_limits s) no h in
      subst (FirstWrong s) a.1 (first (ltb-true _ _ a.0))

  pub first_wrong : (p : Place) → FirstWrong s p → verdict_of s ≡ Wrong p
  unfolding verdict_of
  first_wrong p f =
      let o : first_output s p.input ≡ p.output =
      least_is (differs s p.input) m 0 p.output (omega arith) (omega (arith, f.named)) (ap not (ne_eqb _ _ f.wrong))
      (λ j l u. not-differs p.input j (f.above j u)) in
      let t : some p.input ≡ true = lt-ltb (first_output s p.input) m (omega (arith, f.named)) in
      let e : first_input s ≡ p.input =
      least_is some size 0 p.input (omega arith) (omega (arith, f.inside)) t (λ x l u. none-differs x (λ j h. f.before x j u h)) in
      let q = ap (first_output s) e ∙ o in
      let a = lt-ltb (first_input s) size (omega (arith, f.inside)) in
      ap (λ (b : Bool). cond b (Wrong (record { input = first_input s; output = first_output s (first_input s) })) (by_limits s)) a
      ∙ (λ i. Wrong (record { input = e i; output = q i }))

  -- where no place is the first wrong one, each output is right on every input value
  pub never_wrong : ((p : Place) → FirstWrong s p → ⊥) → (x j : ℕ) → x < size → j < m → Same x j
  never_wrong never = elim (dec_lt (first_input s) size) [
    | yes l ↦ absurd (never _ (first l))
    | no l ↦ everywhere (omega (arith, l))
  ]

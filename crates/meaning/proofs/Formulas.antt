-- A formula whose names are known makes as many gates as it has operators, in the order in which they are worked, and its line
-- holds what it says.
use Rattle.std.specs.Prelude.{Option, Some, None}
use mathlib.Core.Path.{◌≡◌, refl, sym, ap, ap₂, subst, ◌∙◌}
use mathlib.Core.Bool.{false}
use mathlib.Core.Logic.{◌⊎◌, inl, inr}
use mathlib.Core.List.{List, [], ◌∷◌, append-nil}
use Prim.Native.Nat.{ℕ, ◌+◌, ◌-◌, ◌≤◌, ◌<◌, min, max}
use native.Mathlib.Omega.{arith}
use Rattle.circuit.specs.Rules.{done}
use Rattle.circuit.specs.Sizes.{most_inputs, most_gates}
use Rattle.circuit.specs.Gate.{kind_of, bit, truth}
use Rattle.circuit.specs.Lines.{gate}
use Rattle.circuit.specs.Rules.{gate_answer}
use Rattle.formula.specs.Sizes.{longest}
use Rattle.formula.specs.Text.{word_end}
use Rattle.formula.specs.Tree.{Op, kind_no, Tree, leaf}
use Rattle.formula.specs.Names.{input_of}
use Rattle.formula.specs.Emit.{add_gate, invert, new_line, gates_of, line_of}
use Rattle.formula.specs.declared.Gates.{Gates}
use Rattle.drawing.specs.Numbering.{shift_of}
use Rattle.meaning.specs.Meaning.{apply, says, operators, worked_kinds, input_count, inputs_read}
use Rattle.meaning.proofs.Twins.{Lined, name, not, both}
use Rattle.meaning.proofs.Growth.{Grown, add_grown, invert_grown, new_line_is, add-count, invert-count, high_after, use_is, high_input, high_known}
use Rattle.meaning.proofs.Values.{op_truth, op_kind, Fit, shift_low, shift_below, Ready, two_done, not_done, value_at, input_held, After, fit_after, after_trans, ready_after, recount, after_grown, new_held}

-- how many gates there are after a formula: past the most that there is room for the count goes on by one
pub counts : (s : List ℕ) (look : ℕ → ℕ → Option ℕ) (u t : Tree) (g : Gates) → Lined s look u t → g.count ≤ most_gates + 1 → (gates_of t g).count ≡ min (most_gates + 1) (g.count + operators u)
counts s look u t g (name {v = v} l e) h = ap (λ (g : Gates). g.count) (use_is g v) ∙ omega arith
counts s look u t g (not {u = w} {t = z} l) h =
    let e = counts s look w z g l h in
    invert-count (gates_of z g) (line_of z g) (omega arith) ∙ omega arith
counts s look u t g (both {o = o} {a = a} {b = b} {c = c} {d = d} l r) h =
    let e = counts s look a c g l h in
    let f = counts s look b d (gates_of c g) r (omega arith) in
    add-count (gates_of d (gates_of c g)) (kind_no o) (line_of c g) (line_of d (gates_of c g)) (omega arith) ∙ omega arith

module _ (s : List ℕ) (look : ℕ → ℕ → Option ℕ) (n : ℕ) (few : n ≤ most_inputs) (x : ℕ) (nm : ℕ → ℕ) where
  -- the name at a is input v
  pub record Input (a v : ℕ) : Type 0 where
    pub is : input_of s a (word_end s a) ≡ Some v
    pub low : v < most_inputs
    pub value : bit v x ≡ nm a

  -- the name at a was set, and its line is v
  pub record Set (g : Gates) (a v : ℕ) : Type 0 where
    pub none : input_of s a (word_end s a) ≡ None
    pub fit : Fit g v
    pub value : value_at n few x g v ≡ nm a

  -- each name that is known is one of these after the gates g
  abbrev pub Knows : Gates → Type 0
  Knows g = (a v : ℕ) → word_end s a - a ≤ longest → look a (word_end s a) ≡ Some v → Input a v ⊎ Set g a v

  knows_later : (g h : Gates) (m r : ℕ) (ks : List ℕ) → After n few x g h m r ks → Knows g → Knows h
  knows_later g h m r ks w k a v l e = by (k a v l e)
    where
      by : Input a v ⊎ Set g a v → Input a v ⊎ Set h a v
      by (inl i) = inl i
      by (inr i) = inr (record { none = i.none; fit = fit_after n few x g h m r ks v w i.fit; value = w.kept v i.fit ∙ i.value })

  -- what a formula u, whose lines are those of t, makes of the gates g
  pub record Means (u t : Tree) (g : Gates) : Type 0 where
    pub after : After n few x g (gates_of t g) (operators u) (inputs_read s u) (worked_kinds u)
    pub line : Fit (gates_of t g) (line_of t g)
    pub value : value_at n few x (gates_of t g) (line_of t g) ≡ says nm u

  -- ---- a name

  leaf_means : (a v : ℕ) (g : Gates) → Ready n few g → (r : ℕ) → inputs_read s (leaf a) ≡ r → high_after g.high v ≡ max g.high r
      → (v < most_inputs → v < max g.high r) → v < most_inputs + g.count → value_at n few x g v ≡ nm a → Means (leaf a) (leaf v) g
  leaf_means a v g y r er eh low there value =
      subst (λ (h : Gates). After n few x g h 0 (inputs_read s (leaf a)) [] → Fit h v → value_at n few x h v ≡ nm a → Means (leaf a) (leaf v) g) (use_is g v) (λ w f e. record { after = w; line = f; value = e })
      (record {
        sized = record { kinds = y.sized.kinds; left = y.sized.left; right = y.sized.right };
        sound = y.sound;
        count = omega arith;
        high = omega (arith, eh, er);
        kinds = sym (append-nil _);
        kept = λ v e. refl;
      })
      (λ l. omega (arith, low l, eh), there) value

  name_means : (a v : ℕ) (g : Gates) → Ready n few g → inputs_read s (leaf a) ≤ n → Input a v ⊎ Set g a v → Means (leaf a) (leaf v) g
  name_means a v g y h (inl i) =
      let e : inputs_read s (leaf a) ≡ v + 1 = ap input_count i.is ∙ omega arith in
      leaf_means a v g y (v + 1) e (high_input g.high v i.low) (λ l. omega arith) (omega (arith, i.low)) (input_held n few x g v (omega arith) ∙ i.value)
  name_means a v g y h (inr i) =
      leaf_means a v g y 0 (ap input_count i.none) (high_known g.high v i.fit.0 ∙ omega arith) (λ l. omega (arith, i.fit.0 l)) i.fit.1 i.value

  -- ---- one gate more, over lines that are there

  -- h is g with the gate q more, whose line is v
  record Step (g h : Gates) (k a b v : ℕ) : Type 0 where
    after : After n few x g h 1 0 (k ∷ [])
    line : Fit h v
    value : value_at n few x h v ≡ truth (kind_of k) (value_at n few x g a) (value_at n few x g b)

  module _ (g : Gates) (y : Ready n few g) (room : g.count < most_gates) where
    grown_step : (h : Gates) (k a b : ℕ) → Grown g h (gate k a b) → gate_answer false (n + g.count) (gate k (shift_of n a) (shift_of n b)) ≡ done → Step g h k a b (new_line g.count)
    grown_step h k a b w d =
        let e = new_line_is g.count room in
        record {
          after = after_grown n few x g h (gate k a b) y.up y.sound w d;
          line = rw e (λ l. absurd (omega arith), omega (arith, w.count));
          value = ap (value_at n few x h) e ∙ new_held n few x g h (gate k a b) y.up y.sound w d;
        }

    not_step : (a : ℕ) → Fit g a → Step g (invert g a) 6 a 0 (new_line g.count)
    not_step a f =
        let e : gate 6 (shift_of n a) 0 ≡ gate 6 (shift_of n a) (shift_of n 0) = ap (gate 6 (shift_of n a)) (sym (shift_low n 0 (omega arith))) in
        grown_step (invert g a) 6 a 0 (invert_grown g y.sized room a)
        (ap (gate_answer false (n + g.count)) (sym e) ∙ not_done n few (n + g.count) (shift_of n a) (shift_below n few g a y.up f))

    op_step : (o : Op) (a b : ℕ) → Fit g a → Fit g b → Step g (add_gate g (kind_no o) a b) (kind_no o) a b (new_line g.count)
    op_step o a b f e =
        grown_step (add_gate g (kind_no o) a b) (kind_no o) a b (add_grown g y.sized room (kind_no o) a b)
        (two_done n few (n + g.count) (kind_no o) (shift_of n a) (shift_of n b) (op_kind o) (shift_below n few g a y.up f) (shift_below n few g b y.up e))

  -- ---- a formula

  pub means : (u t : Tree) (g : Gates) → Lined s look u t → Ready n few g → Knows g → g.count + operators u ≤ most_gates → inputs_read s u ≤ n → Means u t g
  means u t g (name {a = a} {v = v} l e) y k c r = name_means a v g y r (k a v l e)
  means u t g (not {u = w} {t = z} l) y k c r =
      let m = means w z g l y k (omega arith) r in
      let h = gates_of z g in
      let q = not_step h (ready_after n few x g h _ _ _ y r m.after) (omega (arith, m.after.count)) (line_of z g) m.line in
      record {
        after = recount n few x g (gates_of t g) _ _ (operators u) (inputs_read s u) _ (omega arith) (omega arith) (after_trans n few x g h (gates_of t g) _ _ _ _ _ _ m.after q.after);
        line = q.line;
        value = q.value ∙ ap (λ (x : ℕ). 1 - x) m.value;
      }
  means u t g (both {o = o} {a = a} {b = b} {c = c'} {d = d} l r) y k c i =
      let m = means a c' g l y k (omega arith) (omega arith) in
      let h = gates_of c' g in
      let yh = ready_after n few x g h _ _ _ y (omega arith) m.after in
      let p = means b d h r yh (knows_later g h _ _ _ m.after k) (omega (arith, m.after.count)) (omega arith) in
      let j = gates_of d h in
      let la : Fit j (line_of c' g) = fit_after n few x h j _ _ _ (line_of c' g) p.after m.line in
      let q = op_step j (ready_after n few x h j _ _ _ yh (omega arith) p.after) (omega (arith, m.after.count, p.after.count)) o (line_of c' g) (line_of d h) la p.line in
      record {
        after = recount n few x g (gates_of t g) _ _ (operators u) (inputs_read s u) _ (omega arith) (omega arith)
            (after_trans n few x g h (gates_of t g) _ _ _ _ _ _ m.after (after_trans n few x h j (gates_of t g) _ _ _ _ _ _ p.after q.after));
        line = q.line;
        value = q.value ∙ op_truth o _ _ ∙ ap₂ (apply o) (p.after.kept (line_of c' g) m.line ∙ m.value) p.value;
      }

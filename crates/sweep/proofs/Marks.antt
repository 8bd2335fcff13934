-- Laws of lines as marks in an array. Assumes nothing.
use mathlib.Core.Path.{◌≡◌, refl, ap, ◌∙◌, sym, subst}
use mathlib.Core.Bool.{Bool, true, false, cond, ◌||◌, or-true, or-false, or_self_left, or_assoc, or_comm}
use mathlib.Core.List.{List, [], ◌∷◌, ◌++◌}
use Prim.Native.Nat.{ℕ, zero, suc, ◌+◌, ◌<◌}
use native.Mathlib.Omega.{arith}
use lib.Dec.{eqb}
use lib.ListN.{get_or, set, drop, replicate, replicate-append-replicate, length-set}
use lib.Seq.{ext_get_or, get_or-set_same, get_or-set_other, drop-cons, drop-length}
use borrow.Author.Tests.{eq-eqb, ne_eqb, eqb-true, eqb-false}
use Rattle.circuit.specs.declared.Circuit.{Circuit}
use Rattle.circuit.specs.Lines.{Gate, no_gate, reads, second_read, upto}
use Rattle.circuit.specs.Sizes.{most_lines}
use Rattle.circuit.specs.Structs.{gate_of, listed}
use Rattle.circuit.proofs.Operands.{reads_two, reads_one, by_operands}
use Rattle.circuit.proofs.Upto.{upto-length, upto_at, upto_same}
use Rattle.sweep.specs.Sweep.{has, back}
use Rattle.sweep.specs.Parts.{marked}

-- one of f 0, f 1, .. stored anew
set-upto : {A : Type 0} (d : A) (f h : ℕ → A) (cap x : ℕ) (v : A) → x < cap → h x ≡ v → ((i : ℕ) → (i ≡ x → ⊥) → h i ≡ f i)
    → set (upto f cap) x v ≡ upto h cap
set-upto d f h cap x v l e s =
    let lf = upto-length f cap in
    let lh = upto-length h cap in
    let ls = length-set (upto f cap) x v in
    ext_get_or d (set (upto f cap) x v) (upto h cap) (ls ∙ lf ∙ sym lh) (λ i b. at i (omega arith) (eqb i x) refl) where
      at : (i : ℕ) → i < cap → (t : Bool) → eqb i x ≡ t → get_or (set (upto f cap) x v) i d ≡ get_or (upto h cap) i d
      at i b true z =
          let q = eqb-true i x z in
          ap (λ (k : ℕ). get_or (set (upto f cap) x v) k d) q ∙ get_or-set_same (upto f cap) x v d (omega (arith, upto-length f cap)) ∙ sym e ∙ ap h (sym q)
          ∙ sym (upto_at h d cap i b)
      at i b false z =
          let q = eqb-false i x z in
          get_or-set_other (upto f cap) x i v d q ∙ upto_at f d cap i b ∙ sym (s i q) ∙ sym (upto_at h d cap i b)

-- no mark
pub marked-none : replicate most_lines false ≡ marked []
unfolding marked has upto
marked-none = sym (go most_lines) where
  go : (j : ℕ) → upto (λ (i : ℕ). false) j ≡ replicate j false
  go zero = refl
  go (suc j) =
      let e : j + 1 ≡ suc j = omega arith in
      ap (λ (l : List Bool). l ++ (false ∷ [])) (go j) ∙ replicate-append-replicate j 1 false ∙ ap (λ (k : ℕ). replicate k false) e

pub marked_read : (ls : List ℕ) (x : ℕ) → x < most_lines → get_or (marked ls) x false ≡ has ls x
unfolding marked
marked_read ls x h = upto_at (has ls) false most_lines x h

-- marks are the same where the lines are
pub marked_same : (ls ms : List ℕ) → ((i : ℕ) → has ls i ≡ has ms i) → marked ls ≡ marked ms
unfolding marked
marked_same ls ms e = upto_same (has ls) (has ms) most_lines (λ i h. e i)

-- one line more, where `on` says so
pub marked_one : (on : Bool) (ls : List ℕ) (x : ℕ) → x < most_lines → set (marked ls) x (get_or (marked ls) x false || on) ≡ marked (cond on (x ∷ ls) ls)
unfolding marked has
marked_one true ls x h =
    set-upto false (has ls) (has (x ∷ ls)) most_lines x _ h
    (ap (λ (t : Bool). t || has ls x) (eq-eqb x x refl) ∙ sym (or-true (get_or (upto (has ls) most_lines) x false)))
    (λ i q. ap (λ (t : Bool). t || has ls i) (ne_eqb x i (λ z. q (sym z))))
marked_one false ls x h =
    set-upto false (has ls) (has ls) most_lines x _ h (sym (upto_at (has ls) false most_lines x h) ∙ sym (or-false (get_or (upto (has ls) most_lines) x false))) (λ i q. refl)

or_swap : (s t u : Bool) → (s || (t || u)) ≡ (t || (s || u))
or_swap s t u = sym (or_assoc s t u) ∙ ap (λ (x : Bool). x || u) (or_comm s t) ∙ or_assoc t s u

-- one line more, for certain: as the last of them
has_snoc : (ls : List ℕ) (x i : ℕ) → has (ls ++ (x ∷ [])) i ≡ has (x ∷ ls) i
unfolding has
has_snoc [] x i = refl
has_snoc (y ∷ ls) x i = ap (λ (t : Bool). eqb y i || t) (has_snoc ls x i) ∙ or_swap (eqb y i) (eqb x i) (has ls i)

pub marked_snoc : (ls : List ℕ) (x y : ℕ) → x < most_lines → x ≡ y → set (marked ls) x true ≡ marked (ls ++ (y ∷ []))
marked_snoc ls x y h e =
    ap (set (marked ls) x) (sym (or-true (get_or (marked ls) x false))) ∙ marked_one true ls x h ∙ marked_same (x ∷ ls) (ls ++ (x ∷ [])) (λ i. sym (has_snoc ls x i))
    ∙ ap (λ (z : ℕ). marked (ls ++ (z ∷ []))) e

-- what a gate reads, as the code has it: its first operand, and the second line that it reads
has_two : (q : Gate) (ls : List ℕ) (i : ℕ) → has (second_read q ∷ q.left ∷ ls) i ≡ has (reads q ++ ls) i
unfolding has
has_two q ls i =
    by_operands (λ (q : Gate). has (second_read q ∷ q.left ∷ ls) i ≡ has (reads q ++ ls) i) q
    (λ h. subst (λ (rs : List ℕ). has (get_or rs 1 q.left ∷ q.left ∷ ls) i ≡ has (rs ++ ls) i) (sym (reads_two q h))
    (or_swap (eqb q.right i) (eqb q.left i) (has ls i)))
    (λ h. subst (λ (rs : List ℕ). has (get_or rs 1 q.left ∷ q.left ∷ ls) i ≡ has (rs ++ ls) i) (sym (reads_one q h))
    (or_self_left (eqb q.left i) (has ls i)))

two_marks : (on : Bool) (q : Gate) (ls : List ℕ)
    → marked (cond on (second_read q ∷ cond on (q.left ∷ ls) ls) (cond on (q.left ∷ ls) ls)) ≡ marked (cond on (reads q ++ ls) ls)
two_marks true q ls = marked_same _ _ (has_two q ls)
two_marks false q ls = refl

-- ---- the marks, from the last gate back
module _ (c : Circuit) where
  -- what is reached going back to gate k
  abbrev pub Reached : ℕ → List ℕ
  Reached k = back (c.n + k) (drop k (listed c).gates) (listed c).outs

  -- no gate yet
  pub reached-none : marked (listed c).outs ≡ marked (Reached c.g)
  unfolding back
  reached-none =
      let e : drop c.g (listed c).gates ≡ [] = ap (λ (k : ℕ). drop k (listed c).gates) (sym (upto-length (gate_of c) c.g)) ∙ drop-length (listed c).gates in
      ap (λ (qs : List Gate). marked (back (c.n + c.g) qs (listed c).outs)) (sym e)

  -- one gate more: two stores
  pub reached_next : (k : ℕ) (marks : List Bool) → k < c.g → c.n + k < most_lines → marks ≡ marked (Reached (suc k)) → (x y : ℕ) → x < most_lines → y < most_lines
      → x ≡ (gate_of c k).left → y ≡ second_read (gate_of c k) → (on a b : Bool) → on ≡ get_or marks (c.n + k) false → a ≡ (get_or marks x false || on)
      → b ≡ (get_or (set marks x a) y false || on) → set (set marks x a) y b ≡ marked (Reached k)
  unfolding back
  reached_next k marks h l t x y hx hy ex ey on a b eo ea eb =
      let q = gate_of c k in
      let r = Reached (suc k) in
      let lit : on ≡ has r (c.n + k) = eo ∙ ap (λ (m : List Bool). get_or m (c.n + k) false) t ∙ marked_read r (c.n + k) l in
      let one : set marks x a ≡ marked (cond on (x ∷ r) r) = (λ i. set (t i) x (ea i)) ∙ ap (λ (m : List Bool). set (marked r) x (get_or m x false || on)) t ∙ marked_one on r x hx in
      let r1 : List ℕ = cond on (x ∷ r) r in
      let two : set (set marks x a) y b ≡ marked (cond on (y ∷ r1) r1) =
      (λ i. set (one i) y (eb i)) ∙ ap (λ (m : List Bool). set (marked r1) y (get_or m y false || on)) one ∙ marked_one on r1 y hy in
      let gates = (listed c).gates in
      let e : c.n + suc k ≡ suc (c.n + k) = omega arith in
      let first : drop k gates ≡ q ∷ drop (suc k) gates =
      drop-cons gates k no_gate (omega (arith, upto-length (gate_of c) c.g)) ∙ ap (λ (p : Gate). p ∷ drop (suc k) gates) (upto_at (gate_of c) no_gate c.g k h) in
      two ∙ (λ i. marked (cond on (ey i ∷ cond on (ex i ∷ r) r) (cond on (ex i ∷ r) r))) ∙ two_marks on q r
      ∙ ap (λ (t : Bool). marked (cond t (reads q ++ r) r)) lit
      ∙ (λ i. let s = back (e i) (drop (suc k) gates) (listed c).outs in marked (cond (has s (c.n + k)) (reads q ++ s) s))
      ∙ ap (λ (qs : List Gate). marked (back (c.n + k) qs (listed c).outs)) (sym first)

  -- the last of them
  pub reached-all : marked (Reached 0) ≡ marked (back c.n (listed c).gates (listed c).outs)
  reached-all = let e : c.n + 0 ≡ c.n = omega arith in ap (λ (m : ℕ). marked (back m (listed c).gates (listed c).outs)) e

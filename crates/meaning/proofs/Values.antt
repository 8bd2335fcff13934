-- The gates that a formula makes give what it says on an input value, for any number of inputs that has those that it reads.
use mathlib.Core.Path.{◌≡◌, refl, sym, ap, ap₂, subst, ◌∙◌}
use mathlib.Core.Bool.{false}
use mathlib.Core.Logic.{⊎_elim}
use mathlib.Core.List.{List, [], ◌∷◌, ◌++◌, map, append_assoc, append-nil}
use Prim.Native.Nat.{ℕ, ◌+◌, ◌-◌, ◌≤◌, ◌<◌, max}
use native.Mathlib.Omega.{arith}
use borrow.Author.Tests.{lt-ltb, le-ltb, le-leb}
use lib.ListN.{length, get_or, take, get_or-append}
use lib.Seq.{get_or_at}
use Rattle.circuit.specs.Rules.{done}
use Rattle.circuit.specs.Sizes.{most_inputs}
use Rattle.circuit.specs.Gate.{Kind, XOR, XNOR, AND, NAND, OR, NOR, NOT, kind_of, bit, truth, operands}
use Rattle.circuit.specs.Lines.{Gate, gate, reads, upto, lines, truth_step, inputs_on, values}
use Rattle.circuit.specs.Rules.{gate_answer}
use Rattle.circuit.proofs.LineLaws.{place, lines_suc, lines_length, lines_more, lines_agree}
use Rattle.circuit.proofs.RuleLaws.{two_fit, one_fits}
use Rattle.circuit.proofs.Upto.{upto-suc, upto_same, upto_at, upto-length}
use Rattle.formula.specs.Tree.{Op, And, Xor, Or, kind_no}
use Rattle.formula.specs.declared.Gates.{Gates}
use Rattle.drawing.specs.Numbering.{shift_of}
use Rattle.meaning.specs.Meaning.{apply}
use Rattle.meaning.proofs.Growth.{Sized, gate_made, Grown}

-- what a gate makes of the lines that it reads
two : (c : ℕ) (q : Gate) (f : ℕ → ℕ) → truth_step c q (map f (reads q)) ≡ truth (kind_of q.kind) (f q.left) (f q.right)
unfolding reads
two c q f = by (kind_of q.kind)
  where
    by : (x : Kind) → let l = map f (take (operands x) (q.left ∷ q.right ∷ [])) in truth x (get_or l 0 0) (get_or l 1 0) ≡ truth x (f q.left) (f q.right)
    by XOR = refl
    by XNOR = refl
    by AND = refl
    by NAND = refl
    by OR = refl
    by NOR = refl
    by NOT = refl

-- an operator's gate gives what the operator does
pub op_truth : (o : Op) (a b : ℕ) → truth (kind_of (kind_no o)) a b ≡ apply o a b
op_truth And a b = refl
op_truth Xor a b = refl
op_truth Or a b = refl

pub op_kind : (o : Op) → kind_no o ≤ 5
op_kind And = omega arith
op_kind Xor = omega arith
op_kind Or = omega arith

-- ---- lines with n inputs

-- line v, as if there were 8 inputs, is there: an input that was read, or the line of a gate
abbrev pub Fit : Gates → ℕ → Type 0
Fit g v = (v < most_inputs → v < g.high) × (v < most_inputs + g.count)

-- a gate with n inputs
abbrev pub shifted : ℕ → Gate → Gate
shifted n q = gate q.kind (shift_of n q.left) (shift_of n q.right)

-- the gates so far, with n inputs
abbrev pub numbered : ℕ → Gates → ℕ → Gate
numbered n g k = shifted n (gate_made g k)

-- the kind of gate k, and the kinds of the gates so far
abbrev kind_at : Gates → ℕ → ℕ
kind_at g k = (gate_made g k).kind

abbrev pub kinds_of : Gates → List ℕ
kinds_of g = upto (kind_at g) g.count

pub shift_low : (n v : ℕ) → v < most_inputs → shift_of n v ≡ v
unfolding shift_of
shift_low n v h = rw (lt-ltb _ _ h)

shift_high : (n v : ℕ) → n ≤ most_inputs → most_inputs ≤ v → shift_of n v ≡ n + (v - most_inputs)
unfolding shift_of
shift_high n v m h = rw (le-ltb _ _ h) (omega arith)

module _ (n : ℕ) (few : n ≤ most_inputs) where
  pub shift_below : (g : Gates) (v : ℕ) → g.high ≤ n → Fit g v → shift_of n v < n + g.count
  shift_below g v h f =
      ⊎_elim (λ l. rw (shift_low n v l) (omega (arith, f.0 l))) (λ m. high (⊎_elim (λ e. omega arith) (λ l. omega arith) m)) (place v most_inputs)
    where
      high : most_inputs ≤ v → shift_of n v < n + g.count
      high m = rw (shift_high n v few m) (omega (arith, f.1))

  -- each gate so far is one that no circuit is refused for
  abbrev pub Sound : Gates → Type 0
  Sound g = (k : ℕ) → k < g.count → gate_answer false (n + k) (numbered n g k) ≡ done

  -- gates to which a formula may be added
  pub record Ready (g : Gates) : Type 0 where
    pub sized : Sized g
    pub sound : Sound g
    pub up : g.high ≤ n

  -- a gate of two lines that are there, and a NOT of one
  pub two_done : (line k a b : ℕ) → k ≤ 5 → a < line → b < line → gate_answer false line (gate k a b) ≡ done
  unfolding gate_answer
  two_done line k a b h l r = rw (le-leb k 6 (omega arith), two_fit line (gate k a b) h, lt-ltb _ _ l, lt-ltb _ _ r)

  pub not_done : (line a : ℕ) → a < line → gate_answer false line (gate 6 a 0) ≡ done
  unfolding gate_answer
  not_done line a l = rw (one_fits line (gate 6 a 0) (omega arith), lt-ltb _ _ l)

  module _ (x : ℕ) where
    -- what each line holds on input value x
    abbrev held : Gates → List ℕ
    held g = values x n (numbered n g) g.count

    -- what line v holds
    abbrev pub value_at : Gates → ℕ → ℕ
    value_at g v = get_or (held g) (shift_of n v) 0

    held-length : (g : Gates) → length (held g) ≡ n + g.count
    held-length g =
        lines_length truth_step 0 (inputs_on n x) (numbered n g) g.count ∙ ap (λ (m : ℕ). m + g.count) (upto-length (λ (i : ℕ). bit i x) n)

    -- an input's line holds its bit
    pub input_held : (g : Gates) (i : ℕ) → i < n → value_at g i ≡ bit i x
    unfolding lines
    input_held g i h =
        let l = upto-length (λ (i : ℕ). bit i x) n in
        ap (λ (v : ℕ). get_or (held g) v 0) (shift_low n i (omega arith))
        ∙ lines_more truth_step 0 (inputs_on n x) (numbered n g) 0 i (omega (arith, l)) g.count (omega arith)
        ∙ upto_at (λ (i : ℕ). bit i x) 0 n i h

    -- what is known after some gates more: so many, over inputs below r, of these kinds
    pub record After (g h : Gates) (m r : ℕ) (ks : List ℕ) : Type 0 where
      pub sized : Sized h
      pub sound : Sound h
      pub count : h.count ≡ g.count + m
      pub high : h.high ≡ max g.high r
      pub kinds : kinds_of h ≡ kinds_of g ++ ks
      pub kept : (v : ℕ) → Fit g v → value_at h v ≡ value_at g v

    -- a line that was there is there
    pub fit_after : (g h : Gates) (m r : ℕ) (ks : List ℕ) (v : ℕ) → After g h m r ks → Fit g v → Fit h v
    fit_after g h m r ks v w f = (λ l. omega (arith, f.0 l, w.high), omega (arith, f.1, w.count))

    pub after_trans : (f g h : Gates) (m r : ℕ) (ks : List ℕ) (k q : ℕ) (js : List ℕ) → After f g m r ks → After g h k q js → After f h (m + k) (max r q) (ks ++ js)
    after_trans f g h m r ks k q js a b =
        record {
          sized = b.sized;
          sound = b.sound;
          count = omega (arith, a.count, b.count);
          high = omega (arith, a.high, b.high);
          kinds = b.kinds ∙ ap (λ (l : List ℕ). l ++ js) a.kinds ∙ append_assoc (kinds_of f) ks js;
          kept = λ v e. b.kept v (fit_after f g m r ks v a e) ∙ a.kept v e;
        }

    pub ready_after : (g h : Gates) (m r : ℕ) (ks : List ℕ) → Ready g → r ≤ n → After g h m r ks → Ready h
    ready_after g h m r ks y e w = record { sized = w.sized; sound = w.sound; up = omega (arith, w.high, y.up) }

    -- the same counts, said otherwise
    pub recount : (g h : Gates) (m r k q : ℕ) (ks : List ℕ) → m ≡ k → r ≡ q → After g h m r ks → After g h k q ks
    recount g h m r k q ks em er w =
        record { sized = w.sized; sound = w.sound; count = omega (arith, w.count); high = omega (arith, w.high); kinds = w.kinds; kept = w.kept }

    pub after_none : (g : Gates) → Ready g → After g g 0 0 []
    after_none g y = record { sized = y.sized; sound = y.sound; count = omega arith; high = omega arith; kinds = sym (append-nil (kinds_of g)); kept = λ v e. refl }

    -- one gate more
    module _ (g h : Gates) (q : Gate) (up : g.high ≤ n) (sound : Sound g) (grown : Grown g h q) (fits : gate_answer false (n + g.count) (shifted n q) ≡ done) where
      next_held : held h ≡ held g ++ (truth (kind_of q.kind) (value_at g q.left) (value_at g q.right) ∷ [])
      next_held =
          let c = g.count in
          let same : values x n (numbered n h) c ≡ held g = lines_agree truth_step 0 (inputs_on n x) (numbered n g) (numbered n h) c (λ i l. ap (shifted n) (grown.before i l)) in
          ap (values x n (numbered n h)) grown.count
          ∙ lines_suc truth_step 0 (inputs_on n x) (numbered n h) c
          ∙ ap₂ (λ (p : List ℕ) (r : Gate). p ++ (truth_step c r (map (λ (i : ℕ). get_or p i 0) (reads r)) ∷ [])) same (ap (shifted n) grown.here)
          ∙ ap (λ (y : ℕ). held g ++ (y ∷ [])) (two c (shifted n q) (λ (i : ℕ). get_or (held g) i 0))

      next_sound : Sound h
      next_sound k l = ⊎_elim old (⊎_elim last (λ m. absurd (omega (arith, grown.count)))) (place k g.count)
        where
          old : k < g.count → gate_answer false (n + k) (numbered n h k) ≡ done
          old m = subst (λ (r : Gate). gate_answer false (n + k) (shifted n r) ≡ done) (sym (grown.before k m)) (sound k m)

          last : k ≡ g.count → gate_answer false (n + k) (numbered n h k) ≡ done
          last e =
              subst (λ (j : ℕ). gate_answer false (n + j) (numbered n h j) ≡ done) (sym e)
              (subst (λ (r : Gate). gate_answer false (n + g.count) (shifted n r) ≡ done) (sym grown.here) fits)

      next_kinds : kinds_of h ≡ kinds_of g ++ (q.kind ∷ [])
      next_kinds =
          ap (upto (kind_at h)) grown.count ∙ upto-suc (kind_at h) g.count
          ∙ ap₂ (λ (l : List ℕ) (k : ℕ). l ++ (k ∷ [])) (upto_same (kind_at h) (kind_at g) g.count (λ k l. ap (λ (r : Gate). r.kind) (grown.before k l))) (ap (λ (r : Gate). r.kind) grown.here)

      pub after_grown : After g h 1 0 (q.kind ∷ [])
      after_grown =
          record {
            sized = grown.sized;
            sound = next_sound;
            count = grown.count;
            high = omega (arith, grown.high);
            kinds = next_kinds;
            kept = λ v e. ap (λ (l : List ℕ). get_or l (shift_of n v) 0) next_held ∙ get_or-append (held g) _ 0 (shift_of n v) (omega (arith, shift_below g v up e, held-length g));
          }

      -- its line holds what the gate gives
      pub new_held : value_at h (g.count + most_inputs) ≡ truth (kind_of q.kind) (value_at g q.left) (value_at g q.right)
      new_held =
          let e : shift_of n (g.count + most_inputs) ≡ n + g.count = shift_high n (g.count + most_inputs) few (omega arith) ∙ omega arith in
          ap (λ (i : ℕ). get_or (held h) i 0) e ∙ ap (λ (l : List ℕ). get_or l (n + g.count) 0) next_held ∙ get_or_at (held g) _ [] 0 (n + g.count) (held-length g)

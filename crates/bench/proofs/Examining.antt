-- Lines examined one by one: what is held after some gates, one gate more, and the loop of `examine`. Assumes nothing.
use mathlib.Core.Path.{◌≡◌, ap, ap₂, ◌∙◌, sym}
use mathlib.Core.List.{List, [], ◌∷◌, ◌++◌, append_assoc}
use Prim.Native.Nat.{ℕ, suc, ◌≤◌, ◌<◌, ◌-◌, ◌+◌, min, max}
use native.Mathlib.Omega.{arith}
use lib.ListN.{length, get_or, set, take, replicate, length-append, length-replicate, length-take}
use Rattle.circuit.specs.declared.Words.{Words}
use Rattle.circuit.specs.Gate.{kind_of, nonlinear, words_of, no_words}
use Rattle.circuit.specs.Lines.{Gate, lines, depth_step, and_depth_step, words_step, input_words, depths, and_depths, words, padded, second_read}
use Rattle.circuit.specs.Sizes.{most_inputs, most_gates, most_lines}
use Rattle.circuit.proofs.LineLaws.{made, lines_suc, lines_length, depth_le, and_depth_le}
use Rattle.circuit.proofs.Depths.{deeper_is}
use Rattle.circuit.proofs.Operands.{depth_two, and_two, words_two}
use Rattle.circuit.proofs.Padding.{put_next, pad_read, pad_next, padded_same}
use Rattle.bench.specs.declared.Bench.{Bench}
use Rattle.bench.specs.Parts.{gate_on, entries, examined_as, examined, put}
use Rattle.bench.specs.Held.{holding}

-- ---- an array with an entry a line

module _ {A : Type 0} (step : ℕ → Gate → List A → A) (d : A) (ins : List A) (gate : ℕ → Gate) (n : ℕ) where
  -- what a line holds; one that is not there has d
  pub entries_read : (j x : ℕ) → get_or (entries step d ins gate n j) x d ≡ get_or (lines step d ins gate j) x d
  entries_read j x = pad_read (lines step d ins gate j) (most_lines - (n + j)) x d

  -- before the first gate
  pub entries-start : length ins ≡ n → entries step d ins gate n 0 ≡ padded most_lines d ins
  unfolding lines
  entries-start e = let z : n + 0 ≡ length ins = omega arith in ap (λ (x : ℕ). ins ++ replicate (most_lines - x) d) z

  module _ (is : length ins ≡ n) (j : ℕ) (h : n + j < most_lines) where
    -- a line that is left as d
    pub entries_skip : made step d ins gate j ≡ d → entries step d ins gate n j ≡ entries step d ins gate n (j + 1)
    entries_skip e =
        ap (λ (l : List A). lines step d ins gate j ++ l) (pad_next most_lines n j d h)
        ∙ sym (append_assoc (lines step d ins gate j) (d ∷ []) (replicate (most_lines - (n + (j + 1))) d))
        ∙ ap (λ (l : List A). l ++ replicate (most_lines - (n + (j + 1))) d)
        (sym (lines_suc step d ins gate j ∙ ap (λ (x : A). lines step d ins gate j ++ (x ∷ [])) e))

    -- a line that is stored
    pub entries_next : (v : A) → v ≡ made step d ins gate j → set (entries step d ins gate n j) (n + j) v ≡ entries step d ins gate n (j + 1)
    entries_next v e =
        ap (λ (l : List A). set (lines step d ins gate j ++ l) (n + j) v) (pad_next most_lines n j d h)
        ∙ put_next (lines step d ins gate j) d (replicate (most_lines - (n + (j + 1))) d) v (n + j) (lines_length step d ins gate j ∙ ap (λ (x : ℕ). x + j) is)
        ∙ ap (λ (l : List A). l ++ replicate (most_lines - (n + (j + 1))) d)
        (ap (λ (x : A). lines step d ins gate j ++ (x ∷ [])) e ∙ sym (lines_suc step d ins gate j))

  -- its length
  pub entries-length : length ins ≡ n → (j : ℕ) → n + j ≤ most_lines → length (entries step d ins gate n j) ≡ most_lines
  entries-length is j h =
      omega (arith, length-append (lines step d ins gate j) (replicate (most_lines - (n + j)) d), lines_length step d ins gate j, length-replicate (most_lines - (n + j)) d)

pub inputs-length : (n : ℕ) → n ≤ most_inputs → length (take n input_words) ≡ n
inputs-length n h = omega (arith, length-take n input_words)

-- ---- what one gate makes, as the code computes it

-- what a turn stores of gate q, whose lines are held at x and y: depths within a byte
pub record Stored (q : Gate) (c : Bench) (x y d a : ℕ) (w : Words) : Type 0 where
  pub depth : d ≡ min 255 (suc (max (get_or c.depths x 0) (get_or c.depths y 0)))
  pub and : max (get_or c.and_depths x 0) (get_or c.and_depths y 0) < 255
      → a ≡ max (get_or c.and_depths x 0) (get_or c.and_depths y 0) + nonlinear (kind_of q.kind)
  pub value : w ≡ words_of (kind_of q.kind) (get_or c.values x no_words) (get_or c.values y no_words)

-- a bench holds at x what line z has after the gates below j
pub record Shows (b c : Bench) (j x z : ℕ) : Type 0 where
  pub depth : get_or c.depths x 0 ≡ get_or (depths b.n (gate_on b) j) z 0
  pub and : get_or c.and_depths x 0 ≡ get_or (and_depths b.n (gate_on b) j) z 0
  pub value : get_or c.values x no_words ≡ get_or (words b.n (gate_on b) j) z no_words

-- what gate j has
pub record Makes (b : Bench) (j d a : ℕ) (w : Words) : Type 0 where
  pub depth : d ≡ made depth_step 0 (replicate b.n 0) (gate_on b) j
  pub and : a ≡ made and_depth_step 0 (replicate b.n 0) (gate_on b) j
  pub value : w ≡ made words_step no_words (take b.n input_words) (gate_on b) j

-- what is stored is what the gate has, since no depth reaches the byte's end
pub stored-makes : (b c : Bench) (j x y d a : ℕ) (w : Words) → j < most_gates → Shows b c j x (gate_on b j).left → Shows b c j y (second_read (gate_on b j))
    → Stored (gate_on b j) c x y d a w → Makes b j d a w
stored-makes b c j x y d a w h l r s =
    let Q = gate_on b in
    let q = Q j in
    let n = b.n in
    record {
      depth =
          deeper_is (get_or c.depths x 0) (get_or c.depths y 0) d (omega (arith, l.depth, depth_le n Q j q.left)) (omega (arith, r.depth, depth_le n Q j (second_read q))) s.depth
          ∙ ap₂ (λ (u v : ℕ). suc (max u v)) l.depth r.depth ∙ sym (depth_two j q (λ (i : ℕ). get_or (depths n Q j) i 0));
      and =
          s.and (omega (arith, l.and, r.and, and_depth_le n Q j q.left, and_depth_le n Q j (second_read q)))
          ∙ ap₂ (λ (u v : ℕ). max u v + nonlinear (kind_of q.kind)) l.and r.and ∙ sym (and_two j q (λ (i : ℕ). get_or (and_depths n Q j) i 0));
      value =
          s.value ∙ ap₂ (words_of (kind_of q.kind)) l.value r.value
          ∙ sym (words_two j q (λ (i : ℕ). get_or (words n Q j) i no_words));
    }

-- ---- the loop of `examine`

-- the bench with the first j gates' lines examined
unfoldable pub examined_to : Bench → ℕ → Bench
examined_to b j =
    holding b (entries depth_step 0 (replicate b.n 0) (gate_on b) b.n j) (entries and_depth_step 0 (replicate b.n 0) (gate_on b) b.n j)
    (entries words_step no_words (take b.n input_words) (gate_on b) b.n j)

pub record Examining (b c : Bench) (j : ℕ) : Type 0 where
  pub to : j ≤ b.g
  pub is : c ≡ examined_to b j

pub examine_start : (c : Bench) → c.n ≤ most_inputs → c.depths ≡ replicate most_lines 0 → c.and_depths ≡ replicate most_lines 0
    → c.values ≡ padded most_lines no_words (take c.n input_words) → Examining c c 0
unfolding examined_to
examine_start c h ed ea ev =
    let n = c.n in
    let z = length-replicate {A = ℕ} n 0 in
    let none = padded_same {A = ℕ} most_lines 0 n (omega arith) in
    let p = ed ∙ sym (entries-start depth_step 0 (replicate n 0) (gate_on c) n z ∙ none) in
    let q = ea ∙ sym (entries-start and_depth_step 0 (replicate n 0) (gate_on c) n z ∙ none) in
    let r = ev ∙ sym (entries-start words_step no_words (take n input_words) (gate_on c) n (inputs-length n h)) in
    record { to = omega arith; is = λ i. holding c (p i) (q i) (r i) }

pub examine_next : (b c : Bench) (j x y d a : ℕ) (w : Words) → b.n ≤ most_inputs → b.g ≤ most_gates → j < b.g → Examining b c j → x ≡ (gate_on b j).left → y ≡ second_read (gate_on b j)
    → Stored (gate_on b j) c x y d a w → Examining b (put c (b.n + j) d a w) (j + 1)
unfolding examined_to
examine_next b c j x y d a w n_most g_most h t ex ey s =
    let n = b.n in
    let Q = gate_on b in
    let z = length-replicate {A = ℕ} n 0 in
    let shows : (u v : ℕ) → u ≡ v → Shows b c j u v = λ u v e. record {
      depth = ap₂ (λ (k : Bench) (i : ℕ). get_or k.depths i 0) t.is e ∙ entries_read depth_step 0 (replicate n 0) Q n j v;
      and = ap₂ (λ (k : Bench) (i : ℕ). get_or k.and_depths i 0) t.is e ∙ entries_read and_depth_step 0 (replicate n 0) Q n j v;
      value = ap₂ (λ (k : Bench) (i : ℕ). get_or k.values i no_words) t.is e ∙ entries_read words_step no_words (take n input_words) Q n j v;
    } in
    let m = stored-makes b c j x y d a w (omega arith) (shows x _ ex) (shows y _ ey) s in
    let p = entries_next depth_step 0 (replicate n 0) Q n z j (omega arith) d m.depth in
    let q = entries_next and_depth_step 0 (replicate n 0) Q n z j (omega arith) a m.and in
    let r = entries_next words_step no_words (take n input_words) Q n (inputs-length n n_most) j (omega arith) w m.value in
    record { to = omega arith; is = ap (λ (k : Bench). put k (n + j) d a w) t.is ∙ (λ i. holding b (p i) (q i) (r i)) }

pub examine_done : (b c : Bench) (j : ℕ) → b.g ≤ j → Examining b c j → c ≡ examined b
unfolding examined_to examined_as
examine_done b c j h t = let e : j ≡ b.g = omega (arith, t.to) in t.is ∙ ap (examined_to b) e

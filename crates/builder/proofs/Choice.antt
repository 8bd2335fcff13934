-- Laws of the choice of a gate: the ways that the loops over pairs and rows go.
use mathlib.Core.Bool.{Bool, true, false, cond}
use mathlib.Core.List.{List, [], ◌∷◌}
use mathlib.Core.Path.{◌≡◌, refl, sym, ap, ap₂, ◌∙◌}
use Prim.Native.Nat.{ℕ, zero, suc, ◌+◌, ◌-◌, ◌*◌, ◌≤◌, ◌<◌, min, max}
use native.Mathlib.Nat.{add-zero}
use native.Mathlib.Numerals.{add-one}
use native.Mathlib.Omega.{arith}
use borrow.Author.Tests.{le-leb, lt-leb, le-ltb, eq-eqb, ne_eqb}
use lib.Bits.{bit_xor}
use lib.Dec.{leb, eqb}
use lib.ListN.{length, get_or, drop, drop_of_length-le}
use Rattle.circuit.proofs.Depths.{deeper_is}
use Rattle.circuit.proofs.Lists.{drop_at_next}
use Rattle.distance.specs.Base.{Line, base_of, Xor, xor, made, Shallow}
use Rattle.builder.specs.Rule.{Row, row, rows_of, away, distances, sum, squares, first_pair, immediate, Best, best, better, scored, consider, along_line, all_pairs, best_pair, next_gate}
use Rattle.builder.proofs.Lists.{made_at, rows_at, rows_length}

-- ---- one pair against the best so far
module _ (ls : List Line) (after : Xor → List ℕ) (top : ℕ) (g : Xor) (b : Best) where
  pub consider_deep : top < (made ls g).depth → consider ls after top g b ≡ b
  consider_deep h = rw (lt-leb (made ls g).depth top h)

  within : (made ls g).depth ≤ top → consider ls after top g b ≡ cond (better (scored (after g) g) b) (scored (after g) g) b
  within h = rw (le-leb (made ls g).depth top h)

  worse : (s q : ℕ) → b.total < s → better (best s q g) b ≡ false
  worse s q h = rw (le-ltb s b.total (omega arith), ne_eqb s b.total (omega arith))

  -- dropped: a part of its sum passes the best so far
  pub consider_over : (s : ℕ) → (made ls g).depth ≤ top → b.total < s → s ≤ sum (after g) → consider ls after top g b ≡ b
  consider_over s h k l =
      within h ∙ ap (λ (x : Bool). cond x (scored (after g) g) b) (worse (sum (after g)) (squares (after g)) (omega arith))

  -- weighed
  pub consider_done : (s q : ℕ) (x : Bool) → (made ls g).depth ≤ top → sum (after g) ≡ s → squares (after g) ≡ q → better (best s q g) b ≡ x
      → consider ls after top g b ≡ cond x (best s q g) b
  consider_done s q x h a c v =
      within h ∙ ap₂ (λ (y z : ℕ). cond (better (best y z g) b) (best y z g) b) a c ∙ ap (λ (y : Bool). cond y (best s q g) b) v

-- ---- the loops over pairs
module _ (ls : List Line) (after : Xor → List ℕ) (top : ℕ) where
  along : (f i j : ℕ) (b : Best) → 0 < f → along_line ls after top f i j b ≡ along_line ls after top (f - 1) i (j + 1) (consider ls after top (xor i j) b)
  along zero i j b h = absurd (omega arith)
  along (suc f) i j b h = let p : suc f - 1 ≡ f = omega arith in rw (p, add-one)

  pub along_more : (e i j : ℕ) (b c : Best) → j < e → consider ls after top (xor i j) b ≡ c → along_line ls after top (e - j) i j b ≡ along_line ls after top (e - (j + 1)) i (j + 1) c
  along_more e i j b c h q =
      let p : e - j - 1 ≡ e - (j + 1) = omega arith in
      along (e - j) i j b (omega arith) ∙ ap₂ (λ (x : ℕ) (y : Best). along_line ls after top x i (j + 1) y) p q

  pub along_end : (e i j : ℕ) (b : Best) → e ≤ j → along_line ls after top (e - j) i j b ≡ b
  along_end e i j b h = let p : e - j ≡ 0 = omega arith in rw p

  pairs_step : (f i : ℕ) (b : Best) → 0 < f → all_pairs ls after top f i b ≡ all_pairs ls after top (f - 1) (i + 1) (along_line ls after top (length ls - (i + 1)) i (i + 1) b)
  pairs_step zero i b h = absurd (omega arith)
  pairs_step (suc f) i b h = let p : suc f - 1 ≡ f = omega arith in rw (p, add-one)

  pub pairs_more : (e i : ℕ) (b c : Best) → length ls ≡ e → i < e → along_line ls after top (e - (i + 1)) i (i + 1) b ≡ c
      → all_pairs ls after top (e - i) i b ≡ all_pairs ls after top (e - (i + 1)) (i + 1) c
  pairs_more e i b c l h q =
      let p : e - i - 1 ≡ e - (i + 1) = omega arith in
      pairs_step (e - i) i b (omega arith)
      ∙ ap₂ (λ (x : ℕ) (y : Best). all_pairs ls after top x (i + 1) y) p (ap (λ (x : ℕ). along_line ls after top (x - (i + 1)) i (i + 1) b) l ∙ q)

  pub pairs_end : (e i : ℕ) (b : Best) → e ≤ i → all_pairs ls after top (e - i) i b ≡ b
  pairs_end e i b h = let p : e - i ≡ 0 = omega arith in rw p

-- two ways to weigh that give each pair the same two sums choose the same pair
module _ (ls : List Line) (after after' : Xor → List ℕ) (top : ℕ)
    (same : (i j : ℕ) → i < j → j < length ls → (sum (after (xor i j)) ≡ sum (after' (xor i j))) × (squares (after (xor i j)) ≡ squares (after' (xor i j)))) where
  same_line : (f i j : ℕ) (b : Best) → i < j → j + f ≤ length ls → along_line ls after top f i j b ≡ along_line ls after' top f i j b
  same_line zero i j b p q = refl
  same_line (suc f) i j b p q =
      let s = same i j p (omega arith) in
      same_line f i (suc j) (consider ls after top (xor i j) b) (omega arith) (omega arith)
      ∙ ap (along_line ls after' top f i (suc j))
      (ap₂ (λ (x y : ℕ). cond (leb (made ls (xor i j)).depth top) (cond (better (best x y (xor i j)) b) (best x y (xor i j)) b) b) s.0 s.1)

  pub same_pairs : (f i : ℕ) (b : Best) → i + f ≤ length ls → all_pairs ls after top f i b ≡ all_pairs ls after' top f i b
  same_pairs zero i b p = refl
  same_pairs (suc f) i b p =
      same_pairs f (suc i) (along_line ls after top (length ls - suc i) i (suc i) b) (omega arith)
      ∙ ap (all_pairs ls after' top f (suc i)) (same_line (length ls - suc i) i (suc i) b (omega arith) (omega arith))

pub best-eq : {s s' q q' i i' j j' : ℕ} → s ≡ s' → q ≡ q' → i ≡ i' → j ≡ j' → best s q (xor i j) ≡ best s' q' (xor i' j')
best-eq p q u v = λ k. best (p k) (q k) (xor (u k) (v k))

-- ---- the pair (i, j) of two lists
pub mask_at : (ms ds : List ℕ) (i j : ℕ) → length ms ≡ length ds → (made (base_of ms ds) (xor i j)).mask ≡ bit_xor (get_or ms i 0) (get_or ms j 0)
mask_at ms ds i j l = ap (λ (x : Line). x.mask) (made_at ms ds i j l)

-- w is its depth
pub depth_at : (ms ds : List ℕ) (i j w : ℕ) → length ms ≡ length ds → Shallow ds → w ≡ min 255 (suc (max (get_or ds i 0) (get_or ds j 0))) → (made (base_of ms ds) (xor i j)).depth ≡ w
depth_at ms ds i j w l shallow e = ap (λ (x : Line). x.depth) (made_at ms ds i j l) ∙ sym (deeper_is (get_or ds i 0) (get_or ds j 0) w (omega (arith, shallow i)) (omega (arith, shallow j)) e)

-- ---- the rows: i of them are looked at, none is one gate away, and s is the sum of their distances
pub record Passed (ls : List Line) (rs : List Row) (i s : ℕ) : Type 0 where
  pub total : sum (distances ls rs) ≡ s + sum (distances ls (drop i rs))
  pub other : next_gate ls rs ≡ immediate ls (drop i rs) (best_pair ls rs)
  pub small : s ≤ 8 * i

pub passed_start : (ls : List Line) (rs : List Row) → Passed ls rs 0 0
passed_start ls rs = record { total = omega arith; other = refl; small = omega arith }

module _ (ls : List Line) (ts limits : List ℕ) (i s g : ℕ) (l : length ts ≡ length limits) (h : i < length ts)
    (e : g ≡ away ls (row (get_or ts i 0) (get_or limits i 0))) (w : Passed ls (rows_of ts limits) i s) where
  abbrev rs : List Row
  rs = rows_of ts limits

  abbrev here : Row
  here = row (get_or ts i 0) (get_or limits i 0)

  at_row : drop i rs ≡ here ∷ drop (i + 1) rs
  at_row = drop_at_next rs i (row 0 0) (omega (arith, rows_length ts limits l)) ∙ ap (λ (r : Row). r ∷ drop (i + 1) rs) (rows_at ts limits i l)

  opened : (x : Bool) → eqb g 1 ≡ x → next_gate ls rs ≡ cond x (first_pair ls here) (immediate ls (drop (i + 1) rs) (best_pair ls rs))
  opened x p =
      w.other
      ∙ ap (λ (l : List Row). immediate ls l (best_pair ls rs)) at_row
      ∙ ap (λ (y : Bool). cond y (first_pair ls here) (immediate ls (drop (i + 1) rs) (best_pair ls rs))) (ap (λ (k : ℕ). eqb k 1) (sym e) ∙ p)

  pub passed_hit : g ≡ 1 → next_gate ls rs ≡ first_pair ls here
  passed_hit p = opened true (eq-eqb g 1 p)

  row-sum : sum (distances ls (drop i rs)) ≡ g + sum (distances ls (drop (i + 1) rs))
  row-sum = ap (λ (l : List Row). sum (distances ls l)) at_row ∙ ap (λ (k : ℕ). k + sum (distances ls (drop (i + 1) rs))) (sym e)

  pub passed_some : g ≡ 1 → false ≡ eqb (sum (distances ls rs)) 0
  passed_some p = sym (ne_eqb (sum (distances ls rs)) 0 (λ q. omega (arith, w.total, row-sum)))

  pub passed_more : (g ≡ 1 → ⊥) → g ≤ 8 → Passed ls rs (i + 1) (s + g)
  passed_more p k = record { total = omega (arith, w.total, row-sum); other = opened false (ne_eqb g 1 p); small = omega (arith, w.small) }

module _ (ls : List Line) (rs : List Row) (i s : ℕ) (e : length rs ≤ i) (w : Passed ls rs i s) where
  gone : drop i rs ≡ []
  gone = drop_of_length-le rs e

  pub passed_total : sum (distances ls rs) ≡ s
  passed_total = w.total ∙ ap (λ (l : List Row). s + sum (distances ls l)) gone ∙ add-zero s

  pub passed_best : next_gate ls rs ≡ best_pair ls rs
  passed_best = w.other ∙ ap (λ (l : List Row). immediate ls l (best_pair ls rs)) gone

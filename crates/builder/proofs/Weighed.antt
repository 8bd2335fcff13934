-- Laws of the weighing of pairs by goals: the ways that a turn at a pair goes, and that the goals choose the pair that the rows choose.
use mathlib.Core.Bool.{Bool, cond}
use mathlib.Core.List.{List, [], ◌∷◌}
use mathlib.Core.Path.{◌≡◌, sym, ap, ap₂, ◌∙◌}
use Prim.Native.Nat.{ℕ, suc, ◌*◌, ◌^◌, ◌≤◌, ◌<◌, min, max}
use native.Mathlib.Omega.{arith}
use lib.Bits.{bit_xor}
use lib.ListN.{length, get_or, take}
use Rattle.circuit.specs.Lines.{greatest}
use Rattle.circuit.specs.Sizes.{most_outputs}
use Rattle.circuit.proofs.Padding.{padded-take}
use Rattle.circuit.proofs.Lists.{map_at}
use Rattle.distance.specs.Base.{Line, base_of, Xor, xor, made, Shallow}
use Rattle.builder.specs.Rule.{Row, row, rows_of, away, distances, sum, squares, deepest, Best, best, start, better, consider, all_pairs, distances_after, best_pair}
use Rattle.builder.specs.Kept.{misses, look_up, goals_after, goals_with, to_go, place_of, room_of, low_of, Goals, Aimed, Choosing, Weighing}
use Rattle.builder.proofs.Reach.{away-lt}
use Rattle.builder.proofs.Goals.{Missed, Alike, alike, are_goals}
use Rattle.builder.proofs.Lists.{lines_length, rows_length, rows_at, rows_limits, greatest_below}
use Rattle.builder.proofs.Choice.{mask_at, depth_at, consider_deep, consider_over, consider_done, same_pairs}

-- the goals' distances sum to little
pub low_sum : (gs : List ℕ) → ((i : ℕ) → get_or gs i 0 < 8) → sum gs ≤ 8 * length gs
low_sum [] f = omega arith
low_sum (g ∷ gs) f = omega (arith, f 0, low_sum gs (λ i. f (suc i)))

-- ---- the pair (i, j) of two lists, of depth w and cost c
module _ (ms ds ps fs gs h : List ℕ) (i j w c : ℕ) (l : length ms ≡ length ds) (shallow : Shallow ds) (e : w ≡ min 255 (suc (max (get_or ds i 0) (get_or ds j 0)))) (ec : c ≡ 2 ^ w) (top : ℕ) (b : Best) where
  abbrev ls : List Line
  ls = base_of ms ds

  abbrev m : ℕ
  m = bit_xor (get_or ms i 0) (get_or ms j 0)

  abbrev after : Xor → List ℕ
  after = goals_with (look_up h ls) ps fs gs

  deep : (made ls (xor i j)).depth ≡ w
  deep = depth_at ms ds i j w l shallow e

  after_is : after (xor i j) ≡ goals_after (misses h m c) ps fs gs
  after_is =
      ap₂ (λ (x y : ℕ). goals_after (misses h x y) ps fs gs) (mask_at ms ds i j l) (ap (λ (x : ℕ). 2 ^ x) deep ∙ sym ec)

  pub pair_deep : top < w → consider ls after top (xor i j) b ≡ b
  pair_deep p = consider_deep ls after top (xor i j) b (omega (arith, deep))

  pub pair_over : (r s : ℕ) → w ≤ top → Missed (misses h m c) ps fs gs r s → b.total < s → consider ls after top (xor i j) b ≡ b
  pair_over r s p q k = consider_over ls after top (xor i j) b s (omega (arith, deep)) k (omega (arith, q.total, ap sum after_is))

  pub pair_done : (s q : ℕ) (x : Bool) → w ≤ top → sum (goals_after (misses h m c) ps fs gs) ≡ s → q ≡ squares (goals_after (misses h m c) ps fs gs) → better (best s q (xor i j)) b ≡ x
      → consider ls after top (xor i j) b ≡ cond x (best s q (xor i j)) b
  pair_done s q x p a k v = consider_done ls after top (xor i j) b s q x (omega (arith, deep)) (ap sum after_is ∙ a) (ap squares after_is ∙ sym k) v

-- ---- what a choice is given
module _ (ms ds ts limits gaps h : List ℕ) (z : Choosing ms ds ts limits gaps h) where
  abbrev base : List Line
  base = base_of ms ds

  abbrev rows : List Row
  rows = rows_of ts limits

  pub gaps_length : length ts ≡ length gaps
  gaps_length = omega (arith, rows_length ts limits z.paired, ap length z.gaps_are, lib.ListN.length-map rows (away base))

  -- the distance at a place
  pub gap_at : (i : ℕ) → i < length ts → get_or gaps i 0 ≡ away base (row (get_or ts i 0) (get_or limits i 0))
  gap_at i p =
      ap (λ (l : List ℕ). get_or l i 0) z.gaps_are
      ∙ map_at (away base) rows (row 0 0) i (omega (arith, rows_length ts limits z.paired))
      ∙ ap (away base) (rows_at ts limits i z.paired)

  pub gap_small : (i : ℕ) → get_or gaps i 0 < 8
  gap_small i =
      elim (native.Mathlib.Decide.dec_lt i (length ts)) [
        | yes p ↦ omega (arith, gap_at i p, away-lt base (row (get_or ts i 0) (get_or limits i 0)))
        | no p ↦ omega (arith, lib.ListN.get_or-eq_default gaps 0 {n = i} (omega (arith, gaps_length)))
      ]

  abbrev ps : List ℕ
  ps = to_go place_of gaps ts

  abbrev fs : List ℕ
  fs = to_go room_of gaps limits

  abbrev gs : List ℕ
  gs = to_go low_of gaps ts

  pub goals_given : Goals ps fs gs
  goals_given = are_goals ts limits gaps z.paired gaps_length z.few gap_small z.bytes

  pub limit_top : greatest limits < 16
  limit_top = let b = greatest_below limits 15 (λ i. omega (arith, z.limited i)) in omega arith

  pub weighing_given : (floor : ℕ) → floor ≡ sum gs → Weighing ms ds ps fs gs h (greatest limits) floor
  weighing_given floor e = record { even = z.even; shallow = z.shallow; goals = goals_given; bytes = z.masks; cap = z.cap; deep = limit_top; floor_is = e }

  -- by the goals the same pair is chosen
  pub best_given : (t q i j : ℕ) → all_pairs base (goals_with (look_up h base) ps fs gs) (greatest limits) (length ms) 0 start ≡ best t q (xor i j) → best_pair base rows ≡ xor i j
  best_given t q i j e =
      let n = lines_length ms ds z.even in
      let d : deepest rows ≡ greatest limits = ap greatest (rows_limits ts limits z.paired) in
      let g : (x y : ℕ) → x < y → y < length base
      → (sum (distances_after base rows (xor x y)) ≡ sum (goals_with (look_up h base) ps fs gs (xor x y))) × (squares (distances_after base rows (xor x y)) ≡ squares (goals_with (look_up h base) ps fs gs (xor x y))) =
      λ x y p k. alike_sums x y (alike (look_up h base (xor x y)) base (xor x y) (omega arith) k ts limits z.paired z.sound z.alive (z.tells x y p (omega (arith, k, n)))) in
      ap (λ (b : Best). b.pair)
      (same_pairs base (distances_after base rows) (goals_with (look_up h base) ps fs gs) (deepest rows) g (length base) 0 start (omega arith)
      ∙ ap₂ (λ (u v : ℕ). all_pairs base (goals_with (look_up h base) ps fs gs) u v 0 start) d n ∙ e)
    where
      same : goals_with (look_up h base) (to_go place_of (distances base rows) ts) (to_go room_of (distances base rows) limits) (to_go low_of (distances base rows) ts) ≡ goals_with (look_up h base) ps fs gs
      same = ap (λ (l : List ℕ). goals_with (look_up h base) (to_go place_of l ts) (to_go room_of l limits) (to_go low_of l ts)) (sym z.gaps_are)

      alike_sums : (x y : ℕ)
          → Alike (distances_after base rows (xor x y))
          (goals_with (look_up h base) (to_go place_of (distances base rows) ts) (to_go room_of (distances base rows) limits) (to_go low_of (distances base rows) ts) (xor x y))
          → (sum (distances_after base rows (xor x y)) ≡ sum (goals_with (look_up h base) ps fs gs (xor x y))) × (squares (distances_after base rows (xor x y)) ≡ squares (goals_with (look_up h base) ps fs gs (xor x y)))
      alike_sums x y a = (a.sums ∙ ap (λ (f : Xor → List ℕ). sum (f (xor x y))) same, a.squares_too ∙ ap (λ (f : Xor → List ℕ). squares (f (xor x y))) same)

  -- the same of the goals as they stand in three arrays
  module _ (P R L : List ℕ) (k floor : ℕ) (a : Aimed ts limits gaps P R L k floor) where
    pub few_goals : k ≤ most_outputs
    few_goals = omega (arith, a.count_is, goals_given.few)

    places_taken : take k P ≡ ps
    places_taken = ap (take k) a.places_are ∙ padded-take most_outputs 0 ps k (omega (arith, a.count_is, goals_given.places))

    rooms_taken : take k R ≡ fs
    rooms_taken = ap (take k) a.rooms_are ∙ padded-take most_outputs 0 fs k (omega (arith, a.count_is, goals_given.rooms))

    lows_taken : take k L ≡ gs
    lows_taken = ap (take k) a.lows_are ∙ padded-take most_outputs 0 gs k a.count_is

    pub weighing_taken : (top : ℕ) → top ≡ greatest limits → Weighing ms ds (take k P) (take k R) (take k L) h top floor
    weighing_taken top e = rw (places_taken, rooms_taken, lows_taken, e) (weighing_given floor a.floor_is)

    pub best-taken : (top t q i j : ℕ) → top ≡ greatest limits → all_pairs base (goals_with (look_up h base) (take k P) (take k R) (take k L)) top (length ms) 0 start ≡ best t q (xor i j) → best_pair base rows ≡ xor i j
    best-taken top t q i j e w =
        best_given t q i j
        ((λ u. all_pairs base (goals_with (look_up h base) (sym places_taken u) (sym rooms_taken u) (sym lows_taken u)) (sym e u) (length ms) 0 start) ∙ w)

-- Laws of the goals: the sums over the goals are the sums over the rows, and the ways that the loops over goals go.
use mathlib.Core.List.{List, [], ◌∷◌, ◌++◌}
use mathlib.Core.Path.{◌≡◌, refl, sym, ap, ap₂, ◌∙◌}
use Prim.Native.Nat.{ℕ, zero, suc, ◌+◌, ◌-◌, ◌*◌, ◌≤◌, ◌<◌}
use native.Mathlib.Nat.{mul-le-mul}
use native.Mathlib.Omega.{arith}
use lib.ListN.{length, get_or, take, drop, set, length-append, drop_of_length-le}
use lib.Seq.{length-take-le, take-length}
use Rattle.circuit.specs.Lines.{greatest, padded}
use Rattle.circuit.specs.Sizes.{most_outputs}
use Rattle.circuit.proofs.Padding.{padded-none, padded-put}
use Rattle.circuit.proofs.Lists.{drop_at_next}
use Rattle.distance.specs.Base.{Line, Xor, made}
use Rattle.distance.specs.Distance.{gates}
use Rattle.distance.specs.Table.{cost_at}
use Rattle.builder.specs.Rule.{row, rows_of, reach, count, away, distances, sum, squares, distances_after}
use Rattle.builder.specs.Kept.{SoundRows, Alive, next_gap, next_gaps, missed, added, goals_after, to_go, place_of, room_of, low_of, Tells, Aimed, Goals}
use Rattle.builder.proofs.Reach.{after-made, after-gate}
use Rattle.builder.proofs.Lists.{take_next}

-- ---- sums over the goals, from a place on, where f answers of each
module _ (f : ℕ → ℕ → ℕ) where
  missed_next : (ps fs : List ℕ) (i : ℕ) → length ps ≡ length fs → i < length ps
      → missed f (drop i ps) (drop i fs) ≡ f (get_or ps i 0) (get_or fs i 0) ∷ missed f (drop (i + 1) ps) (drop (i + 1) fs)
  missed_next ps fs i e p = ap₂ (missed f) (drop_at_next ps i 0 p) (drop_at_next fs i 0 (omega arith))

  -- i goals are weighed, and s is the sum so far
  pub record Missed (ps fs gs : List ℕ) (i s : ℕ) : Type 0 where
    pub total : sum (goals_after f ps fs gs) ≡ s + sum (missed f (drop i ps) (drop i fs))
    pub small : s ≤ sum gs + i

  sum_added : (xs ys : List ℕ) → length xs ≡ length ys → sum (added xs ys) ≡ sum xs + sum ys
  sum_added [] [] e = refl
  sum_added [] (y ∷ ys) e = absurd (omega arith)
  sum_added (x ∷ xs) [] e = absurd (omega arith)
  sum_added (x ∷ xs) (y ∷ ys) e = omega (arith, sum_added xs ys (omega arith))

  missed-length : (ps fs : List ℕ) → length ps ≡ length fs → length (missed f ps fs) ≡ length ps
  missed-length [] fs e = refl
  missed-length (p ∷ ps) [] e = absurd (omega arith)
  missed-length (p ∷ ps) (r ∷ fs) e = ap suc (missed-length ps fs (omega arith))

  -- and the same of the squares
  pub record Squared (ps fs gs : List ℕ) (i s : ℕ) : Type 0 where
    pub total : squares (goals_after f ps fs gs) ≡ s + squares (goals_after f (drop i ps) (drop i fs) (drop i gs))
    pub small : s ≤ 64 * i

  module _ (ps fs gs : List ℕ) (g : Goals ps fs gs) where
    pub missed-start : Missed ps fs gs 0 (sum gs)
    missed-start =
        record { total = sum_added gs (missed f ps fs) (omega (arith, missed-length ps fs (omega (arith, g.places, g.rooms)), g.places)); small = omega arith }

    pub missed_end : (i s : ℕ) → length ps ≤ i → Missed ps fs gs i s → sum (goals_after f ps fs gs) ≡ s
    missed_end i s p w =
        let z : missed f (drop i ps) (drop i fs) ≡ [] = ap (λ (l : List ℕ). missed f l (drop i fs)) (drop_of_length-le ps p) in
        omega (arith, w.total, ap sum z)

    pub squared_start : Squared ps fs gs 0 0
    squared_start = record { total = omega arith; small = omega arith }

    pub squared_end : (i s : ℕ) → length ps ≤ i → Squared ps fs gs i s → s ≡ squares (goals_after f ps fs gs)
    squared_end i s p w =
        let z : drop i gs ≡ [] = drop_of_length-le gs {i = i} (omega (arith, g.places)) in
        omega (arith, w.total, ap (λ (l : List ℕ). squares (goals_after f (drop i ps) (drop i fs) l)) z)

    -- an answer is 0 or 1
    module _ (flag : (p r : ℕ) → f p r ≤ 1) where
      pub missed_more : (i s : ℕ) → i < length ps → Missed ps fs gs i s → Missed ps fs gs (i + 1) (s + f (get_or ps i 0) (get_or fs i 0))
      missed_more i s p w =
          let n = ap sum (missed_next ps fs i (omega (arith, g.places, g.rooms)) p) in
          record { total = omega (arith, w.total, n); small = omega (arith, w.small, flag (get_or ps i 0) (get_or fs i 0)) }

      pub gap_le : (i : ℕ) → get_or gs i 0 + f (get_or ps i 0) (get_or fs i 0) ≤ 8
      gap_le i = omega (arith, g.low i, flag (get_or ps i 0) (get_or fs i 0))

      pub squared_more : (i s : ℕ) → i < length ps → Squared ps fs gs i s
          → Squared ps fs gs (i + 1) (s + (get_or gs i 0 + f (get_or ps i 0) (get_or fs i 0)) * (get_or gs i 0 + f (get_or ps i 0) (get_or fs i 0)))
      squared_more i s p w =
          let a = ap₂ added (drop_at_next gs i 0 (omega (arith, g.places))) (missed_next ps fs i (omega (arith, g.places, g.rooms)) p) in
          record { total = omega (arith, w.total, ap squares a); small = omega (arith, w.small, mul-le-mul (gap_le i) (gap_le i)) }

-- ---- the goals of some rows
to_go-length : (f f' : ℕ → ℕ → ℕ) (gs xs ys : List ℕ) → length gs ≡ length xs → length gs ≡ length ys → length (to_go f gs xs) ≡ length (to_go f' gs ys)
to_go-length f f' [] xs ys e e' = refl
to_go-length f f' (g ∷ gs) [] ys e e' = absurd (omega arith)
to_go-length f f' (g ∷ gs) (x ∷ xs) [] e e' = absurd (omega arith)
to_go-length f f' (zero ∷ gs) (x ∷ xs) (y ∷ ys) e e' = to_go-length f f' gs xs ys (omega arith) (omega arith)
to_go-length f f' (suc g ∷ gs) (x ∷ xs) (y ∷ ys) e e' = ap suc (to_go-length f f' gs xs ys (omega arith) (omega arith))

to_go_few : (f : ℕ → ℕ → ℕ) (gs xs : List ℕ) → length (to_go f gs xs) ≤ length gs
to_go_few f [] xs = omega arith
to_go_few f (g ∷ gs) [] = omega arith
to_go_few f (zero ∷ gs) (x ∷ xs) = omega (arith, to_go_few f gs xs)
to_go_few f (suc g ∷ gs) (x ∷ xs) = omega (arith, to_go_few f gs xs)

to_go-all : (P : ℕ → Type 0) (f : ℕ → ℕ → ℕ) (gs xs : List ℕ) → P 0 → ((i g : ℕ) → get_or gs i 0 ≡ suc g → P (f g (get_or xs i 0))) → (i : ℕ) → P (get_or (to_go f gs xs) i 0)
to_go-all P f [] xs z q i = z
to_go-all P f (g ∷ gs) [] z q i = z
to_go-all P f (zero ∷ gs) (x ∷ xs) z q i = to_go-all P f gs xs z (λ j g e. q (suc j) g e) i
to_go-all P f (suc g ∷ gs) (x ∷ xs) z q zero = q 0 g refl
to_go-all P f (suc g ∷ gs) (x ∷ xs) z q (suc i) = to_go-all P f gs xs z (λ j k e. q (suc j) k e) i

to_go_snoc : (f : ℕ → ℕ → ℕ) (gs xs : List ℕ) (g x : ℕ) → length gs ≡ length xs → to_go f (gs ++ (g ∷ [])) (xs ++ (x ∷ [])) ≡ to_go f gs xs ++ to_go f (g ∷ []) (x ∷ [])
to_go_snoc f [] [] g x e = refl
to_go_snoc f [] (y ∷ xs) g x e = absurd (omega arith)
to_go_snoc f (k ∷ gs) [] g x e = absurd (omega arith)
to_go_snoc f (zero ∷ gs) (y ∷ xs) g x e = to_go_snoc f gs xs g x (omega arith)
to_go_snoc f (suc k ∷ gs) (y ∷ xs) g x e = ap (λ (l : List ℕ). f k y ∷ l) (to_go_snoc f gs xs g x (omega arith))

append-none : (l : List ℕ) → l ++ [] ≡ l
append-none [] = refl
append-none (x ∷ l) = ap (λ (r : List ℕ). x ∷ r) (append-none l)

-- a row more
module _ (f : ℕ → ℕ → ℕ) (gs xs : List ℕ) (i : ℕ) (e : length gs ≡ length xs) (p : i < length gs) where
  next_row : to_go f (take (i + 1) gs) (take (i + 1) xs) ≡ to_go f (take i gs) (take i xs) ++ to_go f (get_or gs i 0 ∷ []) (get_or xs i 0 ∷ [])
  next_row =
      ap₂ (to_go f) (take_next gs i 0 p) (take_next xs i 0 (omega arith))
      ∙ to_go_snoc f (take i gs) (take i xs) (get_or gs i 0) (get_or xs i 0) (length-take-le i gs (omega arith) ∙ sym (length-take-le i xs (omega arith)))

  pub row_made : get_or gs i 0 ≡ 0 → to_go f (take (i + 1) gs) (take (i + 1) xs) ≡ to_go f (take i gs) (take i xs)
  row_made z = next_row ∙ ap (λ (g : ℕ). to_go f (take i gs) (take i xs) ++ to_go f (g ∷ []) (get_or xs i 0 ∷ [])) z ∙ append-none (to_go f (take i gs) (take i xs))

  pub row_goal : (g : ℕ) → get_or gs i 0 ≡ suc g → to_go f (take (i + 1) gs) (take (i + 1) xs) ≡ to_go f (take i gs) (take i xs) ++ (f g (get_or xs i 0) ∷ [])
  row_goal g z = next_row ∙ ap (λ (k : ℕ). to_go f (take i gs) (take i xs) ++ to_go f (k ∷ []) (get_or xs i 0 ∷ [])) z

-- i rows are looked at
pub record Aiming (ts limits gaps places rooms lows : List ℕ) (k floor i : ℕ) : Type 0 where
  pub upto : i ≤ length ts
  pub so_far : Aimed (take i ts) (take i limits) (take i gaps) places rooms lows k floor
  pub small : floor ≤ 8 * i
  pub count : k ≤ i

pub aiming_start : (ts limits gaps : List ℕ) → Aiming ts limits gaps (lib.ListN.replicate most_outputs 0) (lib.ListN.replicate most_outputs 0) (lib.ListN.replicate most_outputs 0) 0 0 0
aiming_start ts limits gaps =
    record {
      upto = omega arith;
      so_far = record { places_are = sym (padded-none most_outputs 0); rooms_are = sym (padded-none most_outputs 0); lows_are = sym (padded-none most_outputs 0); count_is = refl; floor_is = refl };
      small = omega arith;
      count = omega arith;
    }

sum_snoc : (xs : List ℕ) (x : ℕ) → sum (xs ++ (x ∷ [])) ≡ sum xs + x
sum_snoc [] x = omega arith
sum_snoc (y ∷ xs) x = omega (arith, sum_snoc xs x)

module _ (ts limits gaps places rooms lows : List ℕ) (k floor i : ℕ) (e : length ts ≡ length limits) (e' : length ts ≡ length gaps) (few : length ts ≤ most_outputs)
    (p : i < length ts) (w : Aiming ts limits gaps places rooms lows k floor i) where
  pub aiming_made : get_or gaps i 0 ≡ 0 → Aiming ts limits gaps places rooms lows k floor (i + 1)
  aiming_made z =
      let a = w.so_far in
      let lows-same = row_made low_of gaps ts i (sym e') (omega arith) z in
      record {
        upto = omega arith;
        so_far =
            record {
              places_are = a.places_are ∙ ap (padded most_outputs 0) (sym (row_made place_of gaps ts i (sym e') (omega arith) z));
              rooms_are = a.rooms_are ∙ ap (padded most_outputs 0) (sym (row_made room_of gaps limits i (omega arith) (omega arith) z));
              lows_are = a.lows_are ∙ ap (padded most_outputs 0) (sym lows-same);
              count_is = a.count_is ∙ ap length (sym lows-same);
              floor_is = a.floor_is ∙ ap sum (sym lows-same);
            };
        small = omega (arith, w.small);
        count = omega (arith, w.count);
      }

  pub aiming_goal : (g room : ℕ) → get_or gaps i 0 ≡ suc g → g < 8 → room ≡ cost_at (get_or limits i 0)
      → Aiming ts limits gaps (set places k (g * 256 + get_or ts i 0)) (set rooms k room) (set lows k g) (k + 1) (floor + g) (i + 1)
  aiming_goal g room z small er =
      let a = w.so_far in
      let lg = length-take-le i gaps (omega arith) in
      let lt = length-take-le i ts (omega arith) in
      let ll = length-take-le i limits (omega arith) in
      let kp : k ≡ length (to_go place_of (take i gaps) (take i ts)) = a.count_is ∙ to_go-length low_of place_of (take i gaps) (take i ts) (take i ts) (omega arith) (omega arith) in
      let kr : k ≡ length (to_go room_of (take i gaps) (take i limits)) = a.count_is ∙ to_go-length low_of room_of (take i gaps) (take i ts) (take i limits) (omega arith) (omega arith) in
      let low-next = row_goal low_of gaps ts i (sym e') (omega arith) g z in
      let below : k < most_outputs = omega (arith, w.count) in
      record {
        upto = omega arith;
        so_far =
            record {
              places_are =
                  ap (λ (l : List ℕ). set l k (g * 256 + get_or ts i 0)) a.places_are
                  ∙ padded-put most_outputs 0 (to_go place_of (take i gaps) (take i ts)) k (g * 256 + get_or ts i 0) kp below
                  ∙ ap (padded most_outputs 0) (sym (row_goal place_of gaps ts i (sym e') (omega arith) g z));
              rooms_are =
                  ap₂ (λ (l : List ℕ) (x : ℕ). set l k x) a.rooms_are er
                  ∙ padded-put most_outputs 0 (to_go room_of (take i gaps) (take i limits)) k (cost_at (get_or limits i 0)) kr below
                  ∙ ap (padded most_outputs 0) (sym (row_goal room_of gaps limits i (omega arith) (omega arith) g z));
              lows_are =
                  ap (λ (l : List ℕ). set l k g) a.lows_are
                  ∙ padded-put most_outputs 0 (to_go low_of (take i gaps) (take i ts)) k g a.count_is below
                  ∙ ap (padded most_outputs 0) (sym low-next);
              count_is = omega (arith, a.count_is, ap length low-next, length-append (to_go low_of (take i gaps) (take i ts)) (g ∷ []));
              floor_is = omega (arith, a.floor_is, ap sum low-next, sum_snoc (to_go low_of (take i gaps) (take i ts)) g);
            };
        small = omega (arith, w.small);
        count = omega (arith, w.count);
      }

pub aiming_end : (ts limits gaps places rooms lows : List ℕ) (k floor i : ℕ) → length ts ≡ length limits → length ts ≡ length gaps → length ts ≤ i
    → Aiming ts limits gaps places rooms lows k floor i → Aimed ts limits gaps places rooms lows k floor
aiming_end ts limits gaps places rooms lows k floor i e e' p w =
    let z : i ≡ length ts = omega (arith, w.upto) in
    let a = ap (λ (x : ℕ). take x ts) z ∙ take-length ts in
    let b = ap (λ (x : ℕ). take x limits) (z ∙ e) ∙ take-length limits in
    let c = ap (λ (x : ℕ). take x gaps) (z ∙ e') ∙ take-length gaps in
    let s = w.so_far in
    record {
      places_are = s.places_are ∙ ap₂ (λ (x y : List ℕ). padded most_outputs 0 (to_go place_of x y)) c a;
      rooms_are = s.rooms_are ∙ ap₂ (λ (x y : List ℕ). padded most_outputs 0 (to_go room_of x y)) c b;
      lows_are = s.lows_are ∙ ap₂ (λ (x y : List ℕ). padded most_outputs 0 (to_go low_of x y)) c a;
      count_is = s.count_is ∙ ap₂ (λ (x y : List ℕ). length (to_go low_of x y)) c a;
      floor_is = s.floor_is ∙ ap₂ (λ (x y : List ℕ). sum (to_go low_of x y)) c a;
    }

-- they are goals
pub are_goals : (ts limits gaps : List ℕ) → length ts ≡ length limits → length ts ≡ length gaps → length ts ≤ most_outputs → ((i : ℕ) → get_or gaps i 0 < 8) → ((i : ℕ) → get_or ts i 0 < 256)
    → Goals (to_go place_of gaps ts) (to_go room_of gaps limits) (to_go low_of gaps ts)
are_goals ts limits gaps e e' few near byte =
    record {
      places = to_go-length place_of low_of gaps ts ts (sym e') (sym e');
      rooms = to_go-length room_of low_of gaps limits ts (omega arith) (sym e');
      few = omega (arith, to_go_few low_of gaps ts);
      below = to_go-all (λ (x : ℕ). x < 2048) place_of gaps ts (omega arith) (λ i g z. omega (arith, near i, byte i));
      low = to_go-all (λ (x : ℕ). x < 8) low_of gaps ts (omega arith) (λ i g z. omega (arith, near i));
    }

-- ---- the sums over the goals after a gate are the sums over the rows after it
pub record Alike (xs ys : List ℕ) : Type 0 where
  pub sums : sum xs ≡ sum ys
  pub squares_too : squares xs ≡ squares ys

-- of which f answers rightly
module _ (f : ℕ → ℕ → ℕ) (ls : List Line) (q : Xor) (one : q.a < length ls) (two : q.b < length ls) where
  abbrev new : List Line
  new = ls ++ (made ls q ∷ [])

  abbrev now_gaps : List ℕ → List ℕ → List ℕ
  now_gaps ts limits = distances ls (rows_of ts limits)

  abbrev then_gaps : List ℕ → List ℕ → List ℕ
  then_gaps ts limits =
      goals_after f (to_go place_of (now_gaps ts limits) ts) (to_go room_of (now_gaps ts limits) limits) (to_go low_of (now_gaps ts limits) ts)

  pub alike : (ts limits : List ℕ) → length ts ≡ length limits → SoundRows (rows_of ts limits) → Alive ls (rows_of ts limits) → Tells f ls new (rows_of ts limits)
      → Alike (distances_after ls (rows_of ts limits) q) (then_gaps ts limits)
  alike [] [] e ok al right = record { sums = refl; squares_too = refl }
  alike [] (d ∷ limits) e ok al right = absurd (omega arith)
  alike (t ∷ ts) [] e ok al right = absurd (omega arith)
  alike (t ∷ ts) (d ∷ limits) e ok al right = go al.0.0 al.0.1 (alike ts limits (omega arith) ok.1 al.1 right.1)
    where
      go : (g : ℕ) → reach ls (row t d) ≡ gates g → Alike (distances_after ls (rows_of ts limits) q) (then_gaps ts limits)
          → Alike (away new (row t d) ∷ distances_after ls (rows_of ts limits) q)
          (goals_after f (to_go place_of (away ls (row t d) ∷ now_gaps ts limits) (t ∷ ts)) (to_go room_of (away ls (row t d) ∷ now_gaps ts limits) (d ∷ limits)) (to_go low_of (away ls (row t d) ∷ now_gaps ts limits) (t ∷ ts)))
      go zero z r =
          let a = after-made ls q one two (row t d) ok.0 z in
          rw (ap count z) (record { sums = omega (arith, r.sums, a); squares_too = omega (arith, r.squares_too, ap (λ (x : ℕ). x * x) a) })
      go (suc k) z r =
          let a = after-gate ls q one two (row t d) ok.0 k z ∙ ap (λ (x : ℕ). k + x) (sym (right.0 k z)) in
          rw (ap count z) (record { sums = omega (arith, r.sums, a); squares_too = omega (arith, r.squares_too, ap (λ (x : ℕ). x * x) a) })

  -- and so are the rows' next distances
  pub next_distances : (ts limits : List ℕ) → length ts ≡ length limits → SoundRows (rows_of ts limits) → Alive ls (rows_of ts limits) → Tells f ls new (rows_of ts limits)
      → next_gaps f (distances ls (rows_of ts limits)) ts limits ≡ distances_after ls (rows_of ts limits) q
  next_distances [] [] e ok al right = refl
  next_distances [] (d ∷ limits) e ok al right = absurd (omega arith)
  next_distances (t ∷ ts) [] e ok al right = absurd (omega arith)
  next_distances (t ∷ ts) (d ∷ limits) e ok al right =
      ap₂ (λ (x : ℕ) (l : List ℕ). x ∷ l) (go al.0.0 al.0.1) (next_distances ts limits (omega arith) ok.1 al.1 right.1)
    where
      go : (g : ℕ) → reach ls (row t d) ≡ gates g → next_gap f (away ls (row t d)) t d ≡ away new (row t d)
      go zero z = rw (ap count z) (sym (after-made ls q one two (row t d) ok.0 z))
      go (suc k) z = rw (ap count z) (ap (λ (x : ℕ). k + x) (right.0 k z) ∙ sym (after-gate ls q one two (row t d) ok.0 k z))

-- the same with equal arrays
pub aiming_eq : (ts limits gaps : List ℕ) {places places' rooms rooms' lows lows' : List ℕ} {k k' floor floor' i : ℕ}
    → places ≡ places' → rooms ≡ rooms' → lows ≡ lows' → k ≡ k' → floor ≡ floor' → Aiming ts limits gaps places' rooms' lows' k' floor' i → Aiming ts limits gaps places rooms lows k floor i
aiming_eq ts limits gaps p q r s t w =
    let a = w.so_far in
    record {
      upto = w.upto;
      so_far = record { places_are = p ∙ a.places_are; rooms_are = q ∙ a.rooms_are; lows_are = r ∙ a.lows_are; count_is = s ∙ a.count_is; floor_is = t ∙ a.floor_is };
      small = omega (arith, w.small);
      count = omega (arith, w.count);
    }

-- ---- the rows' next distances
module _ (f : ℕ → ℕ → ℕ) where
  pub next_made : (g t d : ℕ) → g ≡ 0 → 0 ≡ next_gap f g t d
  next_made g t d e = sym (ap (λ (x : ℕ). next_gap f x t d) e)

  pub next_goal : (g t d room x : ℕ) → (g ≡ 0 → ⊥) → room ≡ cost_at d → x ≡ f ((g - 1) * 256 + t) room → g - 1 + x ≡ next_gap f g t d
  next_goal zero t d room x e r q = absurd (e refl)
  next_goal (suc g) t d room x e r q =
      let z : suc g - 1 ≡ g = omega arith in
      ap₂ ◌+◌ z (q ∙ ap₂ (λ (u v : ℕ). f (u * 256 + t) v) z r)

  pub next_length : (gs ts ds : List ℕ) → length gs ≡ length ts → length gs ≡ length ds → length (next_gaps f gs ts ds) ≡ length gs
  next_length [] ts ds e e' = refl
  next_length (g ∷ gs) [] ds e e' = absurd (omega arith)
  next_length (g ∷ gs) (t ∷ ts) [] e e' = absurd (omega arith)
  next_length (g ∷ gs) (t ∷ ts) (d ∷ ds) e e' = ap suc (next_length gs ts ds (omega arith) (omega arith))

  pub next_at : (gs ts ds : List ℕ) (i : ℕ) → length gs ≡ length ts → length gs ≡ length ds → i < length gs
      → get_or (next_gaps f gs ts ds) i 0 ≡ next_gap f (get_or gs i 0) (get_or ts i 0) (get_or ds i 0)
  next_at [] ts ds i e e' p = absurd (omega arith)
  next_at (g ∷ gs) [] ds i e e' p = absurd (omega arith)
  next_at (g ∷ gs) (t ∷ ts) [] i e e' p = absurd (omega arith)
  next_at (g ∷ gs) (t ∷ ts) (d ∷ ds) zero e e' p = refl
  next_at (g ∷ gs) (t ∷ ts) (d ∷ ds) (suc i) e e' p = next_at gs ts ds i (omega arith) (omega arith) (omega arith)

  module _ (flag : (p r : ℕ) → f p r ≤ 1) where
    pub next_le : (g t d : ℕ) → next_gap f g t d ≤ g
    next_le zero t d = omega arith
    next_le (suc g) t d = omega (arith, flag (place_of g t) (room_of g d))

    pub next_falls : (gs ts ds : List ℕ) → greatest (next_gaps f gs ts ds) ≤ greatest gs
    next_falls [] ts ds = omega arith
    next_falls (g ∷ gs) [] ds = omega arith
    next_falls (g ∷ gs) (t ∷ ts) [] = omega arith
    next_falls (g ∷ gs) (t ∷ ts) (d ∷ ds) = omega (arith, next_le g t d, next_falls gs ts ds)

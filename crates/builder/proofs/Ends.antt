-- Each step of the rule makes the sum of the distances fall, so it ends with every row made, after no more gates than the first sum of distances.
use mathlib.Core.Bool.{Bool, true, false, cond, ◌&&◌, ◌||◌}
use mathlib.Core.List.{List, [], ◌∷◌, ◌++◌}
use mathlib.Core.Logic.{◌⊎◌, inl, inr, ⊎_elim}
use mathlib.Core.Path.{◌≡◌, refl, sym, ap, ◌∙◌, subst}
use Prim.Native.Nat.{ℕ, zero, suc, ◌+◌, ◌-◌, ◌≤◌, ◌<◌}
use native.Mathlib.Decide.{ℕ_discrete}
use native.Mathlib.Omega.{arith}
use borrow.Author.Tests.{le-leb, leb-true, eqb-true, eqb-false, ltb-true, ltb-false}
use lib.Dec.{leb, ltb, eqb}
use lib.ListN.{length}
use Rattle.distance.specs.Base.{Line, Xor, xor, made, run, Reads, Program}
use Rattle.distance.specs.Distance.{gates}
use Rattle.distance.proofs.Tests.{clash, both_cases}
use Rattle.builder.specs.Rule.{Row, reach, count, away, distances, sum, deepest, first_pair, immediate, Best, start, better, scored, consider, along_line, all_pairs, distances_after, best_pair, next_gate, greedy}
use Rattle.builder.specs.Kept.{SoundRow, SoundRows, Alive}
use Rattle.builder.proofs.Reach.{reach-can, reach-lt, reach_more, reach_program, reach_pair, now_made}
use Rattle.builder.proofs.TwoLines.{first_makes}

-- a row is among the rows
pub data In (r : Row) : List Row → Type 0 where
  here : {rs : List Row} → In r (r ∷ rs)
  there : {t : Row} {rs : List Row} → In r rs → In r (t ∷ rs)

sound_in : {r : Row} {rs : List Row} → SoundRows rs → In r rs → SoundRow r
sound_in s here = s.0
sound_in s (there i) = sound_in s.1 i

pub limit-le : {r : Row} {rs : List Row} → In r rs → r.limit ≤ deepest rs
limit-le here = omega arith
limit-le (there i) = omega (arith, limit-le i)

-- ---- one line more
module _ (ls : List Line) (l : Line) where
  pub alive_more : (rs : List Row) → SoundRows rs → Alive ls rs → Alive (ls ++ (l ∷ [])) rs
  alive_more [] s a = tt
  alive_more (r ∷ rs) s a = let u = reach_more ls l r s.0 a.0.0 a.0.1 in ((u.at, u.is), alive_more rs s.1 a.1)

  away_more : (r : Row) (g : ℕ) → SoundRow r → reach ls r ≡ gates g → away (ls ++ (l ∷ [])) r ≤ away ls r
  away_more r g s e = let u = reach_more ls l r s g e in omega (arith, ap count u.is, ap count e, u.le)

  sum_more : (rs : List Row) → SoundRows rs → Alive ls rs → sum (distances (ls ++ (l ∷ [])) rs) ≤ sum (distances ls rs)
  sum_more [] s a = omega arith
  sum_more (r ∷ rs) s a = omega (arith, away_more r a.0.0 s.0 a.0.1, sum_more rs s.1 a.1)

  sum_less : (u : Row) (rs : List Row) → SoundRows rs → Alive ls rs → In u rs → away (ls ++ (l ∷ [])) u < away ls u → sum (distances (ls ++ (l ∷ [])) rs) < sum (distances ls rs)
  sum_less u [] s a i h = elim i [ ]
  sum_less u (r ∷ rs) s a here h = omega (arith, sum_more rs s.1 a.1)
  sum_less u (r ∷ rs) s a (there i) h = omega (arith, away_more r a.0.0 s.0 a.0.1, sum_less u rs s.1 a.1 i h)

-- ---- the best pair is no worse than any pair
module _ (ls : List Line) (rs : List Row) where
  -- the sum of the distances after a gate
  abbrev after : Xor → ℕ
  after g = sum (distances_after ls rs g)

  record Valid (x : Best) : Type 0 where
    is : sum (distances (ls ++ (made ls x.pair ∷ [])) rs) ≡ x.total
    one : x.pair.a < length ls
    two : x.pair.b < length ls
    deep : (made ls x.pair).depth ≤ deepest rs

  abbrev Fair : Best → Type 0
  Fair b = (4096 ≤ b.total) ⊎ Valid b

  -- what a pair leaves: no larger a sum, none larger than its own, and a fair one
  record Left (g : Xor) (b r : Best) : Type 0 where
    less : r.total ≤ b.total
    own : (made ls g).depth ≤ deepest rs → r.total ≤ after g
    fair : Fair r

  better-le : (x b : Best) → better x b ≡ true → x.total ≤ b.total
  better-le x b e = go (ltb x.total b.total) refl
    where
      go : (y : Bool) → ltb x.total b.total ≡ y → x.total ≤ b.total
      go true w = omega (arith, ltb-true x.total b.total w)
      go false w =
          let q : (eqb x.total b.total && ltb b.square x.square) ≡ true = sym (ap (λ (u : Bool). u || (eqb x.total b.total && ltb b.square x.square)) w) ∙ e in
          omega (arith, eqb-true x.total b.total (both_cases (eqb x.total b.total) (ltb b.square x.square) q).0)

  better-ge : (x b : Best) → better x b ≡ false → b.total ≤ x.total
  better-ge x b e = go (ltb x.total b.total) refl
    where
      go : (y : Bool) → ltb x.total b.total ≡ y → b.total ≤ x.total
      go true w = absurd (clash (better x b) (ap (λ (u : Bool). u || (eqb x.total b.total && ltb b.square x.square)) w) e)
      go false w = ltb-false x.total b.total w

  consider_left : (g : Xor) (b : Best) → g.a < length ls → g.b < length ls → Fair b → Left g b (consider ls (distances_after ls rs) (deepest rs) g b)
  consider_left g b ha hb f = go (leb (made ls g).depth (deepest rs)) refl (better (scored (distances (ls ++ (made ls g ∷ [])) rs) g) b) refl
    where
      go : (y : Bool) → leb (made ls g).depth (deepest rs) ≡ y → (z : Bool) → better (scored (distances (ls ++ (made ls g ∷ [])) rs) g) b ≡ z
          → Left g b (cond y (cond z (scored (distances (ls ++ (made ls g ∷ [])) rs) g) b) b)
      go true p true q =
          record {
            less = better-le (scored (distances (ls ++ (made ls g ∷ [])) rs) g) b q;
            own = λ h. omega arith;
            fair = inr (record { is = refl; one = ha; two = hb; deep = leb-true (made ls g).depth (deepest rs) p });
          }
      go true p false q = record { less = omega arith; own = λ h. better-ge (scored (distances (ls ++ (made ls g ∷ [])) rs) g) b q; fair = f }
      go false p z q =
          record { less = omega arith; own = λ h. absurd (clash (leb (made ls g).depth (deepest rs)) (le-leb (made ls g).depth (deepest rs) h) p); fair = f }

  record Line-left (i j f : ℕ) (b r : Best) : Type 0 where
    less : r.total ≤ b.total
    own : (v : ℕ) → j ≤ v → v < j + f → (made ls (xor i v)).depth ≤ deepest rs → r.total ≤ after (xor i v)
    fair : Fair r

  line_left : (f i j : ℕ) (b : Best) → i < length ls → j + f ≤ length ls → Fair b → Line-left i j f b (along_line ls (distances_after ls rs) (deepest rs) f i j b)
  line_left zero i j b hi hj q = record { less = omega arith; own = λ v p r. absurd (omega arith); fair = q }
  line_left (suc f) i j b hi hj q =
      let c = consider_left (xor i j) b hi (omega arith) q in
      let r = line_left f i (suc j) (consider ls (distances_after ls rs) (deepest rs) (xor i j) b) hi (omega arith) c.fair in
      record {
        less = omega (arith, c.less, r.less);
        own = λ v p s d.
            elim (ℕ_discrete j v) [
              | yes w ↦
                  subst (λ (u : ℕ). (along_line ls (distances_after ls rs) (deepest rs) (suc f) i j b).total ≤ after (xor i u)) w
                  (omega (arith, r.less, c.own (subst (λ (u : ℕ). (made ls (xor i u)).depth ≤ deepest rs) (sym w) d)))
              | no w ↦ r.own v (omega arith) (omega arith) d
            ];
        fair = r.fair;
      }

  record All (i f : ℕ) (b r : Best) : Type 0 where
    less : r.total ≤ b.total
    own : (u v : ℕ) → i ≤ u → u < i + f → u < v → v < length ls → (made ls (xor u v)).depth ≤ deepest rs → r.total ≤ after (xor u v)
    fair : Fair r

  all_left : (f i : ℕ) (b : Best) → i + f ≤ length ls → Fair b → All i f b (all_pairs ls (distances_after ls rs) (deepest rs) f i b)
  all_left zero i b hi q = record { less = omega arith; own = λ u v p r. absurd (omega arith); fair = q }
  all_left (suc f) i b hi q =
      let c = line_left (length ls - suc i) i (suc i) b (omega arith) (omega arith) q in
      let r = all_left f (suc i) (along_line ls (distances_after ls rs) (deepest rs) (length ls - suc i) i (suc i) b) (omega arith) c.fair in
      record {
        less = omega (arith, c.less, r.less);
        own = λ u v p s t w d.
            elim (ℕ_discrete i u) [
              | yes e ↦
                  subst (λ (x : ℕ). (all_pairs ls (distances_after ls rs) (deepest rs) (suc f) i b).total ≤ after (xor x v)) e
                  (omega (arith, r.less, c.own v (omega arith) (omega arith) (subst (λ (x : ℕ). (made ls (xor x v)).depth ≤ deepest rs) (sym e) d)))
              | no e ↦ r.own u v (omega arith) (omega arith) t w d
            ];
        fair = r.fair;
      }

-- ---- the next gate

-- a row that is not made yet
record Far (ls : List Line) (rs : List Row) : Type 0 where
  one : Row
  in_it : In one rs
  less : ℕ
  is : reach ls one ≡ gates (suc less)

a_row : (ls : List Line) (rs : List Row) → Alive ls rs → 0 < sum (distances ls rs) → Far ls rs
a_row ls [] a h = absurd (omega arith)
a_row ls (r ∷ rs) a h = go a.0.0 a.0.1 (λ k. a_row ls rs a.1 k)
  where
    go : (g : ℕ) → reach ls r ≡ gates g → (0 < sum (distances ls rs) → Far ls rs) → Far ls (r ∷ rs)
    go zero e f = let s = f (omega (arith, ap count e)) in record { one = s.one; in_it = there s.in_it; less = s.less; is = s.is }
    go (suc g) e f = record { one = r; in_it = here; less = g; is = e }

-- what a gate has to be: the sum falls, it reads two lines, and it is not too deep
pub record Less (ls : List Line) (rs : List Row) (g : Xor) : Type 0 where
  pub less : sum (distances (ls ++ (made ls g ∷ [])) rs) < sum (distances ls rs)
  pub one : g.a < length ls
  pub two : g.b < length ls
  pub deep : (made ls g).depth ≤ deepest rs

module _ (ls : List Line) (rs : List Row) (sound : SoundRows rs) (alive : Alive ls rs) where
  -- a gate after which a row has a program of fewer gates makes the sum fall
  nearer : (u : Row) (k : ℕ) (g : Xor) → In u rs → reach ls u ≡ gates (suc k) → Program (ls ++ (made ls g ∷ [])) k u.mask u.limit
      → sum (distances (ls ++ (made ls g ∷ [])) rs) < sum (distances ls rs)
  nearer u k g i e p =
      let f = reach_program (ls ++ (made ls g ∷ [])) u (sound_in sound i) k (omega (arith, reach-lt ls u (suc k) e)) p in
      sum_less ls (made ls g) u rs sound alive i (omega (arith, ap count f.is, f.le, ap count e))

  best_less : sum (distances ls rs) ≤ 4096 → 0 < sum (distances ls rs) → Less ls rs (best_pair ls rs)
  best_less cap h =
      let r = a_row ls rs alive h in
      let p = reach_pair ls r.one (sound_in sound r.in_it) r.less r.is in
      let q = nearer r.one r.less (xor p.i p.j) r.in_it r.is p.program in
      let w = all_left ls rs (length ls) 0 start (omega arith) (inl (omega arith)) in
      let o = w.own p.i p.j (omega arith) (omega (arith, p.order, p.within)) p.order p.within (omega (arith, p.depth, limit-le r.in_it)) in
      ⊎_elim (λ y. absurd (omega (arith, y, o, q, cap))) (λ y. record { less = omega (arith, y.is, o, q); one = y.one; two = y.two; deep = y.deep }) w.fair

  one_less : (u : Row) → In u rs → reach ls u ≡ gates 1 → Less ls rs (first_pair ls u)
  one_less u i e =
      let g = first_pair ls u in
      let p = first_makes ls u (reach-can ls u 1 e).0 in
      record {
        less = nearer u 0 g i e (now_made ls (made ls g) u.mask u.limit p.mask p.depth);
        one = omega (arith, p.order, p.within);
        two = p.within;
        deep = omega (arith, p.depth, limit-le i);
      }

  immediate_less : (us : List Row) → ((u : Row) → In u us → In u rs) → Alive ls us → (g : Xor) → Less ls rs g → Less ls rs (immediate ls us g)
  immediate_less [] f al g q = q
  immediate_less (u ∷ us) f al g q = go (eqb (away ls u) 1) refl (immediate_less us (λ v i. f v (there i)) al.1 g q)
    where
      go : (x : Bool) → eqb (away ls u) 1 ≡ x → Less ls rs (immediate ls us g) → Less ls rs (cond x (first_pair ls u) (immediate ls us g))
      go true e r =
          let c : al.0.0 ≡ 1 = sym (ap count al.0.1) ∙ eqb-true (away ls u) 1 e in
          one_less u (f u here) (al.0.1 ∙ ap gates c)
      go false e r = r

  pub next_less : sum (distances ls rs) ≤ 4096 → 0 < sum (distances ls rs) → Less ls rs (next_gate ls rs)
  next_less cap h = immediate_less rs (λ u i. i) alive (best_pair ls rs) (best_less cap h)

-- ---- all the steps

-- the gates make every row, are at most as many as the first distances sum to, and read lines below their own
pub record Reached (ls : List Line) (rs : List Row) (gs : List Xor) : Type 0 where
  pub done : sum (distances (run ls gs) rs) ≡ 0
  pub few : length gs ≤ sum (distances ls rs)
  pub reads : Reads ls gs
  pub alive : Alive (run ls gs) rs

pub enough : (f : ℕ) (ls : List Line) (rs : List Row) → SoundRows rs → Alive ls rs → sum (distances ls rs) ≤ 4096 → sum (distances ls rs) ≤ f → Reached ls rs (greedy f ls rs)
enough zero ls rs z a c h = record { done = omega arith; few = omega arith; reads = tt; alive = a }
enough (suc f) ls rs z a c h =
    let g = next_gate ls rs in
    go (eqb (sum (distances ls rs)) 0) refl
    (λ q. enough f (ls ++ (made ls g ∷ [])) rs z (alive_more ls (made ls g) rs z a) (omega (arith, q.less)) (omega (arith, q.less)))
  where
    go : (x : Bool) → eqb (sum (distances ls rs)) 0 ≡ x
        → (Less ls rs (next_gate ls rs) → Reached (ls ++ (made ls (next_gate ls rs) ∷ [])) rs (greedy f (ls ++ (made ls (next_gate ls rs) ∷ [])) rs))
        → Reached ls rs (cond x [] (next_gate ls rs ∷ greedy f (ls ++ (made ls (next_gate ls rs) ∷ [])) rs))
    go true e r = record { done = eqb-true (sum (distances ls rs)) 0 e; few = omega arith; reads = tt; alive = a }
    go false e r =
        let k : 0 < sum (distances ls rs) = let ne = eqb-false (sum (distances ls rs)) 0 e in omega arith in
        let q = next_less ls rs z a c k in
        let b = r q in
        record {
          done = b.done;
          few = omega (arith, b.few, q.less);
          reads = (q.one, q.two, b.reads);
          alive = b.alive;
        }

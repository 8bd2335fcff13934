-- Laws of the pairs that are passed over: a mask that was weighed at the same or a lesser depth cannot be better now.
use mathlib.Core.Bool.{true, false}
use mathlib.Core.List.{List, [], ◌∷◌}
use mathlib.Core.Path.{◌≡◌, refl, sym, ap, ap₂, ◌∙◌, subst}
use Prim.Native.Nat.{ℕ, zero, suc, ◌+◌, ◌-◌, ◌^◌, ◌≤◌, ◌<◌, min, max}
use native.Mathlib.Decide.{ℕ_discrete, dec_le, dec_lt}
use native.Mathlib.Omega.{arith}
use borrow.Author.Tests.{lt-ltb, le-ltb, eq-eqb, ne_eqb}
use lib.Bits.{bit_xor, xor_lt}
use lib.ListN.{length, get_or, set, replicate, length-set, length-replicate, get_or-replicate}
use lib.Pow.{pow_mono}
use lib.Seq.{get_or-set_same, get_or-set_other}
use Rattle.distance.specs.Base.{base_of, Xor, xor}
use Rattle.distance.specs.Table.{cost_at}
use Rattle.distance.proofs.Entries.{cost_is}
use Rattle.distance.proofs.Tests.{clash}
use Rattle.builder.specs.Rule.{sum, squares, best, better, consider, along_line}
use Rattle.builder.specs.Kept.{misses, look_up, goals_after, goals_with, Goals, Weighing}
use Rattle.builder.proofs.Goals.{Missed, missed_more, missed_end}
use Rattle.builder.proofs.Lookup.{misses_near, misses-far, misses-le}
use Rattle.builder.proofs.Choice.{along_more, best-eq}
use Rattle.builder.proofs.Weighed.{low_sum, pair_deep, pair_over, pair_done}

-- ---- one goal more of a pair, for which the look-up answers x
module _ (ps fs gs h : List ℕ) (m c r s x : ℕ) (g : Goals ps fs gs) (in-range : r < length ps) (e : x ≡ misses h m c (get_or ps r 0) (get_or fs r 0)) (w : Missed (misses h m c) ps fs gs r s) where
  pub goal_more : Missed (misses h m c) ps fs gs (r + 1) (s + x)
  goal_more = subst (λ (y : ℕ). Missed (misses h m c) ps fs gs (r + 1) (s + y)) (sym e) (missed_more (misses h m c) ps fs gs g (misses-le h m c) r s in-range w)

  pub goal_small : s + x ≤ 512
  goal_small = omega (arith, e, misses-le h m c (get_or ps r 0) (get_or fs r 0), w.small, low_sum gs g.low, g.places, g.few)

-- ---- sums s and q that are no better than t and u
pub record NoBetter (s q t u : ℕ) : Type 0 where
  pub above : t ≤ s
  pub level : s ≡ t → q ≤ u

module _ (s q t u : ℕ) (g k : Xor) where
  pub no_better_test : NoBetter s q t u → better (best s q g) (best t u k) ≡ false
  no_better_test n =
      elim (ℕ_discrete s t) [
        | yes p ↦ rw (le-ltb s t n.above, eq-eqb s t p, le-ltb u q (n.level p))
        | no p ↦ rw (le-ltb s t n.above, ne_eqb s t p)
      ]

  smaller : s < t → better (best s q g) (best t u k) ≡ true
  smaller p = rw (lt-ltb s t p)

  wider : s ≡ t → u < q → better (best s q g) (best t u k) ≡ true
  wider p w = rw (le-ltb s t (omega arith), eq-eqb s t p, lt-ltb u q w)

  pub test_no_better : better (best s q g) (best t u k) ≡ false → NoBetter s q t u
  test_no_better e =
      record {
        above = elim (dec_lt s t) [
          | yes p ↦ absurd (clash (better (best s q g) (best t u k)) (smaller p) e)
          | no p ↦ omega arith
        ];
        level = λ p.
            elim (dec_lt u q) [
              | yes w ↦ absurd (clash (better (best s q g) (best t u k)) (wider p w) e)
              | no w ↦ omega arith
            ];
      }

  -- what was no better than the old best is no better than one that was taken for better
  pub test_better : better (best s q g) (best t u k) ≡ true → NoBetter t u s q
  test_better e =
      record {
        above = elim (dec_le s t) [
          | yes p ↦ p
          | no p ↦ absurd (clash (better (best s q g) (best t u k)) e (no_better_test (record { above = omega arith; level = λ x. absurd (omega arith) })))
        ];
        level = λ p.
            elim (dec_le u q) [
              | yes w ↦ w
              | no w ↦ absurd (clash (better (best s q g) (best t u k)) e (no_better_test (record { above = omega arith; level = λ x. omega arith })))
            ];
      }

pub no_better_same : (s q : ℕ) → NoBetter s q s q
no_better_same s q = record { above = omega arith; level = λ p. omega arith }

pub no_better_still : (s q t u v x : ℕ) → NoBetter s q t u → NoBetter t u v x → NoBetter s q v x
no_better_still s q t u v x a b =
    record { above = omega (arith, a.above, b.above); level = λ p. omega (arith, a.level (omega (arith, a.above, b.above)), b.level (omega (arith, a.above, b.above))) }

-- ---- a dearer line with the same mask brings no goal nearer that a cheaper one does not
module _ (h : List ℕ) (m c d : ℕ) (le : c ≤ d) where
  misses_mono : (p r : ℕ) → misses h m c p r ≤ misses h m d p r
  misses_mono p r =
      elim (dec_le (get_or h (bit_xor p m) 0 + c) r) [
        | yes near ↦ omega (arith, misses_near h m c p r near)
        | no far ↦ omega (arith, misses-le h m c p r, misses-far h m d p r (omega arith))
      ]

  after_mono : (ps fs gs : List ℕ) → sum (goals_after (misses h m c) ps fs gs) ≤ sum (goals_after (misses h m d) ps fs gs)
  after_mono ps fs [] = omega arith
  after_mono [] fs (g ∷ gs) = omega arith
  after_mono (p ∷ ps) [] (g ∷ gs) = omega arith
  after_mono (p ∷ ps) (r ∷ fs) (g ∷ gs) = omega (arith, misses_mono p r, after_mono ps fs gs)

  -- where the sum is the same, so is each distance
  after_same : (ps fs gs : List ℕ) → sum (goals_after (misses h m d) ps fs gs) ≡ sum (goals_after (misses h m c) ps fs gs) → goals_after (misses h m d) ps fs gs ≡ goals_after (misses h m c) ps fs gs
  after_same ps fs [] e = refl
  after_same [] fs (g ∷ gs) e = refl
  after_same (p ∷ ps) [] (g ∷ gs) e = refl
  after_same (p ∷ ps) (r ∷ fs) (g ∷ gs) e =
      let a = misses_mono p r in
      let b = after_mono ps fs gs in
      let x : g + misses h m d p r ≡ g + misses h m c p r = omega arith in
      ap₂ (λ (y : ℕ) (l : List ℕ). y ∷ l) x (after_same ps fs gs (omega arith))

  dearer : (ps fs gs : List ℕ) (t u : ℕ) → NoBetter (sum (goals_after (misses h m c) ps fs gs)) (squares (goals_after (misses h m c) ps fs gs)) t u
      → NoBetter (sum (goals_after (misses h m d) ps fs gs)) (squares (goals_after (misses h m d) ps fs gs)) t u
  dearer ps fs gs t u n =
      let a = after_mono ps fs gs in
      record {
        above = omega (arith, n.above);
        level = λ p. omega (arith, n.level (omega (arith, n.above)), ap squares (after_same ps fs gs (omega (arith, n.above))));
      }

-- ---- the masks that were weighed: the least depth of each, or top + 1; none is better than the best so far
pub record Seen (h ps fs gs seen : List ℕ) (top t u : ℕ) : Type 0 where
  pub long : length seen ≡ 256
  pub most : (m : ℕ) → get_or seen m 0 ≤ top + 1
  pub past : (m d : ℕ) → m < 256 → get_or seen m 0 ≡ d → d ≤ top → NoBetter (sum (goals_after (misses h m (2 ^ d)) ps fs gs)) (squares (goals_after (misses h m (2 ^ d)) ps fs gs)) t u

same_most : (k m x : ℕ) → get_or (replicate k x) m 0 ≤ x
same_most zero m x = omega arith
same_most (suc k) zero x = omega arith
same_most (suc k) (suc m) x = same_most k m x

pub seen_start : (h ps fs gs : List ℕ) (top t u : ℕ) → Seen h ps fs gs (replicate 256 (top + 1)) top t u
seen_start h ps fs gs top t u =
    record {
      long = length-replicate {A = ℕ} 256 (top + 1);
      most = λ m. same_most 256 m (top + 1);
      past = λ m d p e l. absurd (omega (arith, get_or-replicate {A = ℕ} 256 m (top + 1) 0 p));
    }

-- the mask m is weighed at depth w, and the best is now v, x
pub seen_more : (h ps fs gs seen : List ℕ) (top t u v x m w : ℕ) → m < 256 → w ≤ top → Seen h ps fs gs seen top t u → NoBetter t u v x
    → NoBetter (sum (goals_after (misses h m (2 ^ w)) ps fs gs)) (squares (goals_after (misses h m (2 ^ w)) ps fs gs)) v x → Seen h ps fs gs (set seen m w) top v x
seen_more h ps fs gs seen top t u v x m w p within s b n =
    record {
      long = length-set seen m w ∙ s.long;
      most = λ k.
          elim (ℕ_discrete k m) [
            | yes z ↦ omega (arith, ap (λ (a : ℕ). get_or (set seen m w) a 0) z, get_or-set_same seen m w 0 (omega (arith, s.long)))
            | no z ↦ omega (arith, get_or-set_other seen m k w 0 z, s.most k)
          ];
      past = λ k d q e l.
          elim (ℕ_discrete k m) [
            | yes z ↦
                let y : w ≡ d = sym (get_or-set_same seen m w 0 (omega (arith, s.long))) ∙ ap (λ (a : ℕ). get_or (set seen m w) a 0) (sym z) ∙ e in
                subst (λ (a : ℕ). NoBetter (sum (goals_after (misses h a (2 ^ d)) ps fs gs)) (squares (goals_after (misses h a (2 ^ d)) ps fs gs)) v x) (sym z)
                (subst (λ (a : ℕ). NoBetter (sum (goals_after (misses h m (2 ^ a)) ps fs gs)) (squares (goals_after (misses h m (2 ^ a)) ps fs gs)) v x) y n)
            | no z ↦ no_better_still _ _ t u v x (s.past k d q (sym (get_or-set_other seen m k w 0 z) ∙ e) l) b
          ];
    }

-- ---- the pairs (i, ..) before j are considered
pub record Along (ms ds ps fs gs h : List ℕ) (top i t₀ u₀ a₀ b₀ t u a b : ℕ) (seen : List ℕ) (j : ℕ) : Type 0 where
  pub best_is : along_line (base_of ms ds) (goals_with (look_up h (base_of ms ds)) ps fs gs) top (length ms - (i + 1)) i (i + 1) (best t₀ u₀ (xor a₀ b₀))
      ≡ along_line (base_of ms ds) (goals_with (look_up h (base_of ms ds)) ps fs gs) top (length ms - j) i j (best t u (xor a b))
  pub seen_is : Seen h ps fs gs seen top t u

module _ (ms ds ps fs gs h : List ℕ) (top floor i t₀ u₀ a₀ b₀ t u a b : ℕ) (seen : List ℕ) (j w : ℕ) (z : Weighing ms ds ps fs gs h top floor)
    (l : Along ms ds ps fs gs h top i t₀ u₀ a₀ b₀ t u a b seen j) (in-range : j < length ms) (e : w ≡ min 255 (suc (max (get_or ds i 0) (get_or ds j 0)))) where
  abbrev m : ℕ
  m = bit_xor (get_or ms i 0) (get_or ms j 0)

  pub byte : m < 256
  byte = xor_lt 8 (get_or ms i 0) (get_or ms j 0) (z.bytes i) (z.bytes j)

  next : (t' u' a' b' : ℕ) (seen' : List ℕ) → consider (base_of ms ds) (goals_with (look_up h (base_of ms ds)) ps fs gs) top (xor i j) (best t u (xor a b)) ≡ best t' u' (xor a' b')
      → Seen h ps fs gs seen' top t' u' → Along ms ds ps fs gs h top i t₀ u₀ a₀ b₀ t' u' a' b' seen' (j + 1)
  next t' u' a' b' seen' q s =
      record {
        best_is = l.best_is ∙ along_more (base_of ms ds) (goals_with (look_up h (base_of ms ds)) ps fs gs) top (length ms) i j (best t u (xor a b)) (best t' u' (xor a' b')) in-range q;
        seen_is = s;
      }

  -- too deep
  along_deep : top < w → Along ms ds ps fs gs h top i t₀ u₀ a₀ b₀ t u a b seen (j + 1)
  along_deep p = next t u a b seen (pair_deep ms ds ps fs gs h i j w _ z.even z.shallow e refl top (best t u (xor a b)) p) l.seen_is

  module _ (within : w ≤ top) where
    abbrev at_w : List ℕ
    at_w = goals_after (misses h m (2 ^ w)) ps fs gs

    -- weighed already
    along_seen : get_or seen m 0 ≤ w → Along ms ds ps fs gs h top i t₀ u₀ a₀ b₀ t u a b seen (j + 1)
    along_seen p =
        let n = dearer h m (2 ^ get_or seen m 0) (2 ^ w) (pow_mono p) ps fs gs t u (l.seen_is.past m (get_or seen m 0) byte refl (omega arith)) in
        next t u a b seen
        (pair_done ms ds ps fs gs h i j w (2 ^ w) z.even z.shallow e refl top (best t u (xor a b)) (sum at_w) (squares at_w) false within refl refl (no_better_test (sum at_w) (squares at_w) t u (xor i j) (xor a b) n))
        l.seen_is

  -- passed over
  pub along_passed : get_or seen m 0 ≤ w → Along ms ds ps fs gs h top i t₀ u₀ a₀ b₀ t u a b seen (j + 1)
  along_passed p = elim (dec_lt top w) [
    | yes deep ↦ along_deep deep
    | no within ↦ along_seen (omega arith) p
  ]

  module _ (new : w < get_or seen m 0) where
    pub within : w ≤ top
    within = omega (arith, l.seen_is.most m)

    abbrev after : List ℕ
    after = goals_after (misses h m (2 ^ w)) ps fs gs

    module _ (c : ℕ) (ec : c ≡ cost_at w) where
      cost-of : c ≡ 2 ^ w
      cost-of = cost_is w c (omega (arith, within, z.deep)) ec

      same : goals_after (misses h m c) ps fs gs ≡ after
      same = ap (λ (x : ℕ). goals_after (misses h m x) ps fs gs) cost-of

      -- k is j, as the loop over the goals has it
      module _ (k : ℕ) (is : k ≡ j) where
        at_next : (t' u' a' b' : ℕ) (seen' : List ℕ) → Along ms ds ps fs gs h top i t₀ u₀ a₀ b₀ t' u' a' b' seen' (j + 1) → Along ms ds ps fs gs h top i t₀ u₀ a₀ b₀ t' u' a' b' seen' (k + 1)
        at_next t' u' a' b' seen' = subst (λ (x : ℕ). Along ms ds ps fs gs h top i t₀ u₀ a₀ b₀ t' u' a' b' seen' (x + 1)) (sym is)

        -- dropped
        pub along_over : (r s : ℕ) → Missed (misses h m c) ps fs gs r s → t < s → Along ms ds ps fs gs h top i t₀ u₀ a₀ b₀ t u a b (set seen m w) (k + 1)
        along_over r s q p =
            at_next t u a b (set seen m w)
            (next t u a b (set seen m w) (pair_over ms ds ps fs gs h i j w c z.even z.shallow e cost-of top (best t u (xor a b)) r s within q p)
            (seen_more h ps fs gs seen top t u t u m w byte within l.seen_is (no_better_same t u)
            (let o : t < sum after = omega (arith, q.total, ap sum same) in record { above = omega arith; level = λ x. absurd (omega arith) })))

        module _ (r s q : ℕ) (end : length ps ≤ r) (so_far : Missed (misses h m c) ps fs gs r s) (sq : q ≡ squares (goals_after (misses h m c) ps fs gs)) where
          total : sum (goals_after (misses h m c) ps fs gs) ≡ s
          total = missed_end (misses h m c) ps fs gs z.goals r s end so_far

          weighed : (v x : ℕ) → NoBetter s q v x → NoBetter (sum after) (squares after) v x
          weighed v x = λ (n : NoBetter s q v x). subst (λ (y : ℕ). NoBetter y (squares after) v x) (sym total ∙ ap sum same) (subst (λ (y : ℕ). NoBetter s y v x) (sq ∙ ap squares same) n)

          -- weighed, and left
          pub along_left : (t' u' a' b' : ℕ) → better (best s q (xor i j)) (best t u (xor a b)) ≡ false → t' ≡ t → u' ≡ u → a' ≡ a → b' ≡ b → Along ms ds ps fs gs h top i t₀ u₀ a₀ b₀ t' u' a' b' (set seen m w) (k + 1)
          along_left t' u' a' b' v e1 e2 e3 e4 =
              at_next t' u' a' b' (set seen m w)
              (next t' u' a' b' (set seen m w)
              (pair_done ms ds ps fs gs h i j w c z.even z.shallow e cost-of top (best t u (xor a b)) s q false within total sq v ∙ sym (best-eq e1 e2 e3 e4))
              (subst (λ (x : ℕ). Seen h ps fs gs (set seen m w) top x u') (sym e1)
              (subst (λ (x : ℕ). Seen h ps fs gs (set seen m w) top t x) (sym e2)
              (seen_more h ps fs gs seen top t u t u m w byte within l.seen_is (no_better_same t u) (weighed t u (test_no_better s q t u (xor i j) (xor a b) v))))))

          -- weighed, and taken
          pub along_taken : (t' u' a' b' : ℕ) → better (best s q (xor i j)) (best t u (xor a b)) ≡ true → t' ≡ s → u' ≡ q → a' ≡ i → b' ≡ j → Along ms ds ps fs gs h top i t₀ u₀ a₀ b₀ t' u' a' b' (set seen m w) (k + 1)
          along_taken t' u' a' b' v e1 e2 e3 e4 =
              at_next t' u' a' b' (set seen m w)
              (next t' u' a' b' (set seen m w)
              (pair_done ms ds ps fs gs h i j w c z.even z.shallow e cost-of top (best t u (xor a b)) s q true within total sq v ∙ sym (best-eq e1 e2 e3 e4))
              (subst (λ (x : ℕ). Seen h ps fs gs (set seen m w) top x u') (sym e1)
              (subst (λ (x : ℕ). Seen h ps fs gs (set seen m w) top s x) (sym e2)
              (seen_more h ps fs gs seen top t u s q m w byte within l.seen_is (test_better s q t u (xor i j) (xor a b) v) (weighed s q (no_better_same s q))))))

-- What a distance tells whatever the masks of the base are: only sets of at most n lines are looked at, so where there is one the distance is the
-- fewest gates of all programs. No law here asks that masks are below 2 ^ n.
use mathlib.Core.Bool.{Bool, true, false, cond}
use mathlib.Core.List.{List}
use mathlib.Core.Path.{◌≡◌, refl, sym, ◌∙◌, subst}
use Prim.Native.Nat.{ℕ, zero, suc, ◌+◌, ◌^◌, ◌≤◌, ◌<◌}
use native.Mathlib.Decide.{dec_le}
use native.Mathlib.Omega.{arith}
use Rattle.distance.specs.Base.{Line, set_size, Program, Fewest}
use Rattle.distance.specs.Distance.{can, Gap, gates, never, gap_from, distance}
use Rattle.distance.proofs.Tests.{clash}
use Rattle.distance.proofs.Lower.{AtMost, lower}
use Rattle.distance.proofs.Upper.{upper}
use Rattle.distance.proofs.Fewest.{found, finds, none_chosen, first_gates, first_never, Sized}

-- a distance that is at most k
pub record UpTo (x : Gap) (k : ℕ) : Type 0 where
  pub at : ℕ
  pub is : x ≡ gates at
  pub le : at ≤ k

-- the sizes g + 1 to g + f are looked at
gap_lt : (f g r t b : ℕ) (ls : List Line) → gap_from f g t b ls ≡ gates r → r < g + f
gap_lt zero g r t b ls e = let z : ◌≡◌ {A = ℕ} 0 1 = cc in absurd (omega arith)
gap_lt (suc f) g r t b ls e = go (can (suc g) t b ls) e (gap_lt f (suc g) r t b ls)
  where
    go : (x : Bool) → cond x (gates g) (gap_from f (suc g) t b ls) ≡ gates r → (gap_from f (suc g) t b ls ≡ gates r → r < suc g + f) → r < g + suc f
    go true e more = let q : g ≡ r = cc in omega arith
    go false e more = omega (arith, more e)

module _ (n : ℕ) (ls : List Line) (t D : ℕ) where
  pub distance-lt : (g : ℕ) → distance n ls t D ≡ gates g → g < n
  distance-lt g e = omega (arith, gap_lt n 0 g t (2 ^ D) ls e)

  -- a set of g + 1 lines, if g + 1 is a size that is looked at
  pub can-distance : (g : ℕ) → g < n → can (suc g) t (2 ^ D) ls ≡ true → UpTo (distance n ls t D) g
  can-distance g h c = go (distance n ls t D) refl
    where
      go : (x : Gap) → distance n ls t D ≡ x → UpTo (distance n ls t D) g
      go (gates k) e =
          record {
            at = k;
            is = e;
            le = elim (dec_le k g) [ yes w ↦ w | no w ↦ absurd (clash (can (suc g) t (2 ^ D) ls) c ((first_gates t (2 ^ D) ls n 0 k e).1 g (omega arith) (omega arith))) ];
          }
      go never e = absurd (clash (can (suc g) t (2 ^ D) ls) c (first_never t (2 ^ D) ls n 0 e g (omega arith) (omega arith)))

  module _ (some : t ≡ 0 → ⊥) where
    -- the size of a set for t is not 0
    set_sized : (h : ℕ) → AtMost ls (suc h) t (2 ^ D) → Sized (suc h) ls t (2 ^ D) h
    set_sized h a = go (set_size ls a.chosen) refl
      where
        go : (s : ℕ) → set_size ls a.chosen ≡ s → Sized (suc h) ls t (2 ^ D) h
        go zero e = absurd (some (sym a.mask ∙ none_chosen ls a.chosen e))
        go (suc s) e =
            record { less = s; few = omega (arith, a.size); within = omega (arith, a.size); can_it = finds ls a.chosen (suc s) t (2 ^ D) e a.mask a.cost }

    program_set : (h : ℕ) → Program ls h t D → AtMost ls (suc h) t (2 ^ D)
    program_set h p = subst (λ (m : ℕ). AtMost ls (suc m) t (2 ^ D)) p.count (lower p.gates ls t D p.makes)

    -- a set of at most k + 1 lines, or a program of k gates, bounds the distance
    pub set-distance : (k : ℕ) → k < n → AtMost ls (suc k) t (2 ^ D) → UpTo (distance n ls t D) k
    set-distance k h a =
        let s = set_sized k a in
        let u = can-distance s.less (omega (arith, s.few)) s.can_it in
        record { at = u.at; is = u.is; le = omega (arith, u.le, s.few) }

    pub program_distance : (k : ℕ) → k < n → Program ls k t D → UpTo (distance n ls t D) k
    program_distance k h p = set-distance k h (program_set k p)

    -- the distance of a row that has one is the fewest gates
    pub gates_fewest : (g : ℕ) → distance n ls t D ≡ gates g → Fewest ls t D g
    gates_fewest g e =
        let f = first_gates t (2 ^ D) ls n 0 g e in
        record {
          program = upper ls g t D (found ls (suc g) t (2 ^ D) f.0);
          least = λ h p.
              let s = set_sized h (program_set h p) in
              elim (dec_le g h) [ yes w ↦ w | no w ↦ absurd (clash (can (suc s.less) t (2 ^ D) ls) s.can_it (f.1 s.less (omega arith) (omega (arith, s.few)))) ];
        }

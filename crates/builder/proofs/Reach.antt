-- Laws of a row's distance from a base: what a line more does to it, and that a line made from two of the base takes off one gate at most.
use mathlib.Core.Bool.{Bool, true, false, cond}
use mathlib.Core.List.{List, [], ◌∷◌, ◌++◌}
use mathlib.Core.Path.{◌≡◌, refl, sym, ap, ◌∙◌, subst}
use Prim.Native.Nat.{ℕ, suc, ◌+◌, ◌^◌, ◌≤◌, ◌<◌}
use native.Mathlib.Omega.{arith}
use borrow.Author.Tests.{le-leb, leb-true}
use lib.ListN.{length, length-append}
use lib.Seq.{get_or-append_seam}
use lib.Pow.{pow_mono}
use Rattle.distance.specs.Base.{Line, none, Xor, made, Program, Fewest}
use Rattle.distance.specs.Distance.{Gap, gates, never, can}
use Rattle.distance.specs.Table.{far, least_sum}
use Rattle.distance.proofs.Tests.{clash}
use Rattle.distance.proofs.Upper.{Pair, progress}
use Rattle.distance.proofs.Fewest.{found, first_gates, Barren}
use Rattle.distance.proofs.AnyMasks.{UpTo, distance-lt, can-distance, program_distance, gates_fewest}
use Rattle.distance.proofs.Least.{can-least}
use Rattle.distance.proofs.Weight.{grows}
use Rattle.builder.specs.Rule.{Row, reach, count, away}
use Rattle.builder.specs.Kept.{SoundRow, stays}

-- ---- programs and the distance
pub under_far : (r : Row) → SoundRow r → 2 ^ r.limit < far
under_far r ok = let i : r.limit ≤ 15 = omega (arith, ok.shallow) in omega (arith, pow_mono i)

module _ (ls : List Line) (r : Row) where
  -- the size of the smallest set, and none below it
  pub reach-can : (g : ℕ) → reach ls r ≡ gates g → (can (suc g) r.mask (2 ^ r.limit) ls ≡ true) × Barren r.mask (2 ^ r.limit) ls 0 g
  unfolding reach
  reach-can g e = first_gates r.mask (2 ^ r.limit) ls 8 0 g e

  pub reach-lt : (g : ℕ) → reach ls r ≡ gates g → g < 8
  unfolding reach
  reach-lt g e = distance-lt 8 ls r.mask r.limit g e

  -- a set of g + 1 lines, or a program of g gates, bounds the distance
  pub reach-set : (g : ℕ) → g < 8 → can (suc g) r.mask (2 ^ r.limit) ls ≡ true → UpTo (reach ls r) g
  unfolding reach
  reach-set g h c = can-distance 8 ls r.mask r.limit g h c

  pub away-lt : away ls r < 8
  away-lt = go (reach ls r) refl
    where
      go : (x : Gap) → reach ls r ≡ x → away ls r < 8
      go (gates k) e = omega (arith, ap count e, reach-lt k e)
      go never e = omega (arith, ap count e)

  module _ (ok : SoundRow r) where
    pub reach_program : (g : ℕ) → g < 8 → Program ls g r.mask r.limit → UpTo (reach ls r) g
    unfolding reach
    reach_program g h p = program_distance 8 ls r.mask r.limit ok.some g h p

    -- the distance of a row that has one is the fewest gates
    pub reach_fewest : (g : ℕ) → reach ls r ≡ gates g → Fewest ls r.mask r.limit g
    unfolding reach
    reach_fewest g e = gates_fewest 8 ls r.mask r.limit ok.some g e

    -- a pair that brings the row one gate nearer
    pub reach_pair : (g : ℕ) → reach ls r ≡ gates (suc g) → Pair ls g r.mask r.limit
    reach_pair g e =
        progress ls r.mask r.limit g ok.some (reach_fewest (suc g) e).least (found ls (suc (suc g)) r.mask (2 ^ r.limit) (reach-can (suc g) e).0)

-- ---- a line more: no row gets farther away
module _ (ls : List Line) (l : Line) (r : Row) (ok : SoundRow r) where
  can_more : (k : ℕ) → can k r.mask (2 ^ r.limit) ls ≡ true → can k r.mask (2 ^ r.limit) (ls ++ (l ∷ [])) ≡ true
  can_more k e =
      let t = r.mask in
      let b = 2 ^ r.limit in
      let p = leb-true (least_sum k t ls) b (sym (can-least k t b ls (under_far r ok)) ∙ e) in
      can-least k t b (ls ++ (l ∷ [])) (under_far r ok) ∙ le-leb (least_sum k t (ls ++ (l ∷ []))) b (omega (arith, grows k t ls l))

  pub reach_more : (g : ℕ) → reach ls r ≡ gates g → UpTo (reach (ls ++ (l ∷ [])) r) g
  reach_more g e = reach-set (ls ++ (l ∷ [])) r g (reach-lt ls r g e) (can_more (suc g) (reach-can ls r g e).0)

-- ---- a line made by a gate: a program that starts from it is a program of one gate more
module _ (ls : List Line) (q : Xor) (one : q.a < length ls) (two : q.b < length ls) where
  pub put_first : (k t D : ℕ) → Program (ls ++ (made ls q ∷ [])) k t D → Program ls (suc k) t D
  put_first k t D p =
      record {
        gates = q ∷ p.gates;
        count = ap suc p.count;
        makes = let m = p.makes in record { reads = (one, two, m.reads); at = m.at; within = m.within; mask = m.mask; depth = m.depth };
      }

  module _ (r : Row) (ok : SoundRow r) where
    abbrev new : List Line
    new = ls ++ (made ls q ∷ [])

    -- so the new distance is at most one gate less
    at_least : (g k : ℕ) → reach ls r ≡ gates g → reach new r ≡ gates k → g ≤ suc k
    at_least g k e f = (reach_fewest ls r ok g e).least (suc k) (put_first k r.mask r.limit (reach_fewest new r ok k f).program)

    -- a row that is made stays so
    pub after-made : reach ls r ≡ gates 0 → away new r ≡ 0
    after-made e = let u = reach_more ls (made ls q) r ok 0 e in omega (arith, ap count u.is, u.le)

    -- another comes one gate nearer where the new base has the set for it, and else stays where it is
    pub after-gate : (k : ℕ) → reach ls r ≡ gates (suc k) → away new r ≡ k + stays new k r
    unfolding stays
    after-gate k e = go (can (suc k) r.mask (2 ^ r.limit) new) refl
      where
        go : (x : Bool) → can (suc k) r.mask (2 ^ r.limit) new ≡ x → away new r ≡ k + cond x 0 1
        go true f =
            let u = reach-set new r k (omega (arith, reach-lt ls r (suc k) e)) f in
            omega (arith, ap count u.is, u.le, at_least (suc k) u.at e u.is)
        go false f =
            let u = reach_more ls (made ls q) r ok (suc k) e in
            let other : u.at ≡ k → ⊥ =
            λ w. clash (can (suc k) r.mask (2 ^ r.limit) new)
            (subst (λ (y : ℕ). can (suc y) r.mask (2 ^ r.limit) new ≡ true) w (reach-can new r u.at u.is).0) f in
            omega (arith, ap count u.is, u.le, at_least (suc k) u.at e u.is, other)

-- a line that makes the row is a program of no gates
pub now_made : (ls : List Line) (l : Line) (t D : ℕ) → l.mask ≡ t → l.depth ≤ D → Program (ls ++ (l ∷ [])) 0 t D
now_made ls l t D p q =
    let e = get_or-append_seam ls l [] none in
    record {
      gates = [];
      count = refl;
      makes =
          record {
            reads = tt;
            at = length ls;
            within = omega (arith, length-append ls (l ∷ []));
            mask = ap (λ (x : Line). x.mask) e ∙ p;
            depth = subst (λ (x : Line). x.depth ≤ D) (sym e) q;
          };
    }

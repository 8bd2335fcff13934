-- Laws of the table that the builder keeps up: it is made once, of the inputs, and then takes in a line a step.
use mathlib.Core.List.{List, [], ◌∷◌, ◌++◌}
use mathlib.Core.Path.{◌≡◌}
use Prim.Native.Nat.{ℕ, zero, suc, min, ◌≤◌, ◌<◌}
use native.Mathlib.Omega.{arith}
use lib.Bits.{xor_lt}
use lib.ListN.{length, get_or}
use lib.Pow.{pow_mono}
use Rattle.distance.specs.Base.{Line, line, base_of, none, Xor, made, Small}
use Rattle.distance.specs.Table.{cost_at, end_of, TakenIn}
use Rattle.distance.proofs.Entries.{cost_is, stepped_le, stepped_end}
use Rattle.builder.specs.Kept.{Held}

-- ---- masks stay bytes
small_get : (ls : List Line) (i : ℕ) → Small 8 ls → (get_or ls i none).mask < 256
small_get [] i s = omega arith
small_get (l ∷ ls) zero s = s.0
small_get (l ∷ ls) (suc i) s = small_get ls i s.1

small_snoc : (ls : List Line) (l : Line) → Small 8 ls → l.mask < 256 → Small 8 (ls ++ (l ∷ []))
small_snoc [] l s h = (h, tt)
small_snoc (x ∷ ls) l s h = (s.0, small_snoc ls l s.1 h)

pub small_masks : (ms ds : List ℕ) → length ms ≡ length ds → Small 8 (base_of ms ds) → (i : ℕ) → get_or ms i 0 < 256
small_masks [] ds e s i = omega arith
small_masks (m ∷ ms) [] e s i = absurd (omega arith)
small_masks (m ∷ ms) (d ∷ ds) e s zero = s.0
small_masks (m ∷ ms) (d ∷ ds) e s (suc i) = small_masks ms ds (omega arith) s.1 i

pub made_byte : (ls : List Line) (g : Xor) → Small 8 ls → (made ls g).mask < 256
made_byte ls g s = xor_lt 8 (get_or ls g.a none).mask (get_or ls g.b none).mask (small_get ls g.a s) (small_get ls g.b s)

-- ---- the table of some sizes is one of fewer
pub held_fewer : (h : List ℕ) (ls : List Line) (old new : ℕ) → new ≤ old → Held h ls old → Held h ls new
held_fewer h ls old new p o = record { holds = record { at = λ k t q r. o.holds.at k t (omega arith) r }; bytes = o.bytes; cap = o.cap }

-- a line more at the end of the base, for as many sizes as before or fewer
pub held_more : (h g : List ℕ) (m d c old new : ℕ) (ls : List Line) → c ≡ cost_at d → m < 256 → new ≤ old → new ≤ 9 → Held h ls old → TakenIn h g m c (end_of new)
    → Held g (ls ++ (line m d ∷ [])) new
held_more h g m d c old new ls e hm fewer nine o s =
    let more = stepped_end h g m d c old (min new 9) ls e hm (omega arith) o.holds s in
    record { holds = record { at = λ k t q r. more.at k t (omega arith) r }; bytes = small_snoc ls (line m d) o.bytes hm; cap = λ j. omega (arith, stepped_le h g m c (end_of new) j s, o.cap j) }

-- a line within depth 15 costs at most 2 ^ 15
pub cost_le : (d c : ℕ) → d < 16 → c ≡ cost_at d → c ≤ 32768
cost_le d c p e = let q : d ≤ 15 = omega arith in omega (arith, pow_mono q, cost_is d c p e)

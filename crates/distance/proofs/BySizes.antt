-- Laws of the array that a query fills, a size at a time: no entry is above what a set costs that could be of use.
use mathlib.Core.Bool.{Bool, true, false}
use mathlib.Core.List.{List, [], ◌∷◌}
use mathlib.Core.Path.{◌≡◌, refl, sym, ap, ◌∙◌, subst}
use Prim.Native.Nat.{ℕ, zero, suc, ◌+◌, ◌-◌, ◌*◌, ◌^◌, ◌≤◌, ◌<◌, min, max}
use native.Mathlib.Decide.{ℕ_discrete, dec_le, dec_lt}
use native.Mathlib.Omega.{arith}
use borrow.Author.Tests.{eqb-true, ne_eqb}
use lib.ListN.{length, get_or, set, length-set, get_or-eq_default}
use lib.Seq.{get_or-set_same, get_or-set_other}
use lib.Pow.{pow_mono}
use lib.Bits.{bit_xor, xor_lt, xor_zero_r}
use lib.Dec.{eqb}
use Rattle.distance.specs.Base.{Line, base_of}
use Rattle.distance.specs.Table.{far, bare, least_sum, cost_at, relaxed, no_line_numbers, lowered, TakenInto, Below, Ones, Sized}
use Rattle.distance.proofs.Xor.{xor_twice}
use Rattle.distance.proofs.Least.{least-none}
use Rattle.distance.proofs.Entries.{prev_at}

-- ---- one line

-- what is written stands there, or there is no such place
set_at : (h : List ℕ) (e c : ℕ) → get_or (set h e c) e 0 ≤ c
set_at h e c =
    elim (dec_lt e (length h)) [
      | yes p ↦ omega (arith, get_or-set_same h e c 0 p)
      | no p ↦ omega (arith, get_or-eq_default (set h e c) 0 {n = e} (omega (arith, length-set h e c)))
    ]

-- a lesser entry makes none greater
set_less : (h : List ℕ) (e c j : ℕ) → c ≤ get_or h e 0 → get_or (set h e c) j 0 ≤ get_or h j 0
set_less h e c j p =
    elim (ℕ_discrete j e) [
      | yes q ↦ subst (λ (x : ℕ). get_or (set h e c) x 0 ≤ get_or h x 0) (sym q) (omega (arith, set_at h e c))
      | no q ↦ omega (arith, get_or-set_other h e j c 0 q)
    ]

-- a cost in the array is no more than 2 ^ d
cost_le : (d c : ℕ) → c ≡ cost_at d → c ≤ 2 ^ d
cost_le d c e = let p : min d 20 ≤ d = omega arith in omega (arith, e, pow_mono p)

-- the first i lines are entered: each costs at least what the entry of its mask says
pub record Entered (h ms ds : List ℕ) (i : ℕ) : Type 0 where
  pub none : get_or h 0 0 ≡ 0
  pub line : (j : ℕ) → j < i → (get_or ms j 0 < 256) × (get_or h (256 + get_or ms j 0) 0 ≤ 2 ^ get_or ds j 0)

-- the array of no lines
pub entered_none : (ms ds : List ℕ) → Entered no_line_numbers ms ds 0
unfolding no_line_numbers
entered_none ms ds = record { none = refl; line = λ j q. absurd (omega arith) }

-- a line more: the entry of its mask is lowered
pub entered_more : (h g ms ds : List ℕ) (i c : ℕ) → get_or ms i 0 < 256 → c ≡ cost_at (get_or ds i 0) → g ≡ lowered h (get_or ms i 0) c → Entered h ms ds i → Entered g ms ds (i + 1)
unfolding lowered
entered_more h g ms ds i c byte w r o = record { none = omega (arith, less 0, o.none); line = line }
  where
    m : ℕ
    m = get_or ms i 0

    v : ℕ
    v = min (get_or h (256 + m) 0) c

    less : (x : ℕ) → get_or g x 0 ≤ get_or h x 0
    less x = omega (arith, ap (λ (y : List ℕ). get_or y x 0) r, set_less h (256 + m) v x (omega arith))

    line : (j : ℕ) → j < i + 1 → (get_or ms j 0 < 256) × (get_or g (256 + get_or ms j 0) 0 ≤ 2 ^ get_or ds j 0)
    line j q =
        elim (ℕ_discrete j i) [
          | yes e ↦
              let low : get_or g (256 + m) 0 ≤ c = omega (arith, ap (λ (x : List ℕ). get_or x (256 + m) 0) r, set_at h (256 + m) v) in
              subst (λ (x : ℕ). (get_or ms x 0 < 256) × (get_or g (256 + get_or ms x 0) 0 ≤ 2 ^ get_or ds x 0)) (sym e) (byte, omega (arith, low, cost_le (get_or ds i 0) c w))
          | no e ↦ let p = o.line j (omega arith) in (p.0, omega (arith, less (256 + get_or ms j 0), p.1))
        ]

-- all are entered
pub entered_end : (h ms ds : List ℕ) (i : ℕ) → length ms ≤ i → Entered h ms ds i → Ones h (base_of ms ds)
entered_end h [] ds i p o = o.none
entered_end h (m ∷ ms) [] i p o = o.none
entered_end h (m ∷ ms) (d ∷ ds) zero p o = absurd (omega arith)
entered_end h (m ∷ ms) (d ∷ ds) (suc i) p o =
    let l = o.line 0 (omega arith) in
    (l.0, l.1, entered_end h ms ds i (omega arith) (record { none = o.none; line = λ j q. o.line (suc j) (omega arith) }))

-- ---- no line, and one

first_entry : (h : List ℕ) (ls : List Line) → Ones h ls → get_or h 0 0 ≡ 0
first_entry h [] o = o
first_entry h (l ∷ ls) o = first_entry h ls o.2

-- masks whose sum is 0 are equal
same_mask : (m t : ℕ) → bit_xor m t ≡ 0 → m ≡ t
same_mask m t e = sym (xor_zero_r m) ∙ ap (bit_xor m) (sym e) ∙ xor_twice m t

none_below : (h : List ℕ) (ls : List Line) (t b : ℕ) → b < far → Ones h ls → least_sum 0 t ls ≤ b → get_or h (0 * 256 + t) 0 ≤ least_sum 0 t ls
none_below h ls zero b p o q = omega (arith, first_entry h ls o)
none_below h ls (suc t) b p o q = absurd (omega (arith, least-none (suc t) ls ∙ ap bare (ne_eqb (suc t) 0 (omega arith))))

one_below : (h : List ℕ) (ls : List Line) (t b : ℕ) → b < far → Ones h ls → least_sum 1 t ls ≤ b → get_or h (256 + t) 0 ≤ least_sum 1 t ls
one_below h [] t b p o q = absurd (omega arith)
one_below h (l ∷ ls) t b p o q = go (eqb (bit_xor l.mask t) 0) refl (dec_le (least_sum 1 t ls) b) (one_below h ls t b p o.2)
  where
    rest : least_sum 0 (bit_xor l.mask t) ls ≡ bare (eqb (bit_xor l.mask t) 0)
    rest = least-none (bit_xor l.mask t) ls

    go : (x : Bool) → eqb (bit_xor l.mask t) 0 ≡ x → Dec (least_sum 1 t ls ≤ b) → (least_sum 1 t ls ≤ b → get_or h (256 + t) 0 ≤ least_sum 1 t ls)
        → get_or h (256 + t) 0 ≤ least_sum 1 t (l ∷ ls)
    go true e d more =
        let m = same_mask l.mask t (eqb-true (bit_xor l.mask t) 0 e) in
        let v = ap (λ (x : ℕ). get_or h (256 + x) 0) m in
        let z = rest ∙ ap bare e in
        elim d [
          | yes s ↦ omega (arith, more s, v, z, o.1)
          | no s ↦ omega (arith, v, z, o.1)
        ]
    go false e d more =
        let z = rest ∙ ap bare e in
        elim d [
          | yes s ↦ omega (arith, more s, z)
          | no s ↦ absurd (omega (arith, z))
        ]

-- the array of one line is ready for the sets of two
pub below_two : (h : List ℕ) (ls : List Line) (b : ℕ) → b < far → Ones h ls → Below h ls 2 b
below_two h ls b p o = record { at = at }
  where
    at : (k t : ℕ) → k < 2 → t < 256 → least_sum k t ls ≤ b → get_or h (k * 256 + t) 0 ≤ least_sum k t ls
    at zero t q r s = none_below h ls t b p o s
    at (suc zero) t q r s = one_below h ls t b p o s
    at (suc (suc k)) t q r s = absurd (omega arith)

-- ---- a size more

-- a line more in front makes no least sum greater
least_front : (k t : ℕ) (l : Line) (ls : List Line) → least_sum k t (l ∷ ls) ≤ least_sum k t ls
least_front zero t l ls = omega (arith, least-none t ls)
least_front (suc k) t l ls = omega arith

-- the new size: its entries are no greater than what a set of that size costs
level_below : (h g : List ℕ) (k b : ℕ) → b < far → Sized h g (suc k) b 256 → (ls : List Line) → Ones h ls
    → ((u : ℕ) → u < 256 → least_sum k u ls ≤ b → get_or h (k * 256 + u) 0 ≤ least_sum k u ls)
    → (t : ℕ) → t < 256 → least_sum (suc k) t ls ≤ b → get_or g (suc k * 256 + t) 0 ≤ least_sum (suc k) t ls
level_below h g k b p s [] o f t q r = absurd (omega arith)
level_below h g k b p s (l ∷ ls) o f t q r =
    go (level_below h g k b p s ls o.2 later t q) (dec_le (least_sum (suc k) t ls) b) (dec_le (2 ^ l.depth + least_sum k (bit_xor l.mask t) ls) b)
  where
    later : (u : ℕ) → u < 256 → least_sum k u ls ≤ b → get_or h (k * 256 + u) 0 ≤ least_sum k u ls
    later u x y = let z = least_front k u l ls in omega (arith, f u x (omega arith))

    taken : 2 ^ l.depth + least_sum k (bit_xor l.mask t) ls ≤ b → get_or g (suc k * 256 + t) 0 ≤ 2 ^ l.depth + least_sum k (bit_xor l.mask t) ls
    taken x =
        let e : suc k - 1 ≡ k = omega arith in
        let v = ap (λ (y : ℕ). get_or h (y * 256 + bit_xor l.mask t) 0) e in
        let a = s.level l.mask t o.0 o.0 q (omega (arith, o.1)) in
        omega (arith, a, v, o.1, later (bit_xor l.mask t) (xor_lt 8 l.mask t o.0 q) (omega arith))

    go : (least_sum (suc k) t ls ≤ b → get_or g (suc k * 256 + t) 0 ≤ least_sum (suc k) t ls)
        → Dec (least_sum (suc k) t ls ≤ b) → Dec (2 ^ l.depth + least_sum k (bit_xor l.mask t) ls ≤ b) → get_or g (suc k * 256 + t) 0 ≤ least_sum (suc k) t (l ∷ ls)
    go passed (yes x) (yes y) = omega (arith, passed x, taken y)
    go passed (yes x) (no y) = omega (arith, passed x)
    go passed (no x) (yes y) = omega (arith, taken y)
    go passed (no x) (no y) = absurd (omega arith)

-- what one line costs stands below the new size
ones_kept : (h g : List ℕ) (k b n : ℕ) → 2 ≤ k → Sized h g k b n → (ls : List Line) → Ones h ls → Ones g ls
ones_kept h g k b n p s [] o = s.low 0 (omega arith) ∙ o
ones_kept h g k b n p s (l ∷ ls) o = (o.0, omega (arith, s.low (256 + l.mask) (omega (arith, o.0)), o.1), ones_kept h g k b n p s ls o.2)

-- so the array is ready for sets of one line more
pub below_more : (h g : List ℕ) (k b : ℕ) (ls : List Line) → 2 ≤ k → b < far → Sized h g k b 256 → Below h ls k b → Ones h ls → Below g ls (suc k) b × Ones g ls
below_more h g zero b ls p q s o w = absurd (omega arith)
below_more h g (suc k) b ls p q s o w = (record { at = at }, ones_kept h g (suc k) b 256 p s ls w)
  where
    at : (j t : ℕ) → j < suc (suc k) → t < 256 → least_sum j t ls ≤ b → get_or g (j * 256 + t) 0 ≤ least_sum j t ls
    at j t x y z =
        elim (dec_lt j (suc k)) [
          | yes v ↦ omega (arith, s.low (j * 256 + t) (omega arith), o.at j t v y z)
          | no v ↦
              let e : j ≡ suc k = omega arith in
              subst (λ (i : ℕ). get_or g (i * 256 + t) 0 ≤ least_sum i t ls) (sym e)
              (level_below h g k b q s ls w (λ u. o.at k u (omega arith)) t y (subst (λ (i : ℕ). least_sum i t ls ≤ b) e z))
        ]

-- ---- the loop over the sizes: at g the array has the sizes below g, and those of no line and of one

-- a size that had to be filled
pub size_filled : (h f : List ℕ) (g b : ℕ) (ls : List Line) → 1 < g → b < far → Sized h f g b 256 → Below h ls (max g 2) b → Ones h ls → Below f ls (max (g + 1) 2) b × Ones f ls
size_filled h f g b ls p q s o w =
    let more = below_more h f g b ls (omega arith) q s (record { at = λ k t x. o.at k t (omega arith) }) w in
    (record { at = λ k t x. more.0.at k t (omega arith) }, more.1)

-- a size that was there
pub size_there : (h : List ℕ) (g b : ℕ) (ls : List Line) → g ≤ 1 → Below h ls (max g 2) b → Below h ls (max (g + 1) 2) b
size_there h g b ls p o = record { at = λ k t x. o.at k t (omega arith) }

-- the search for sets of g + 1 lines can begin
pub below_next : (h : List ℕ) (ls : List Line) (g b : ℕ) → Below h ls (max (g + 1) 2) b → Below h ls (g + 1) b
below_next h ls g b o = record { at = λ k t x. o.at k t (omega arith) }

-- ---- the loop over the masks

-- a mask whose lines are all too dear is of no use
pub sized_skip : (h g : List ℕ) (k b m : ℕ) → 2 ≤ k → m < 256 → b < get_or g (256 + m) 0 → Sized h g k b m → Sized h g k b (m + 1)
sized_skip h g k b m p lt q s = record { low = s.low; level = level }
  where
    level : (x t : ℕ) → x < m + 1 → x < 256 → t < 256 → get_or h (256 + x) 0 ≤ b → get_or g (k * 256 + t) 0 ≤ get_or h ((k - 1) * 256 + bit_xor x t) 0 + get_or h (256 + x) 0
    level x t u v w z =
        elim (ℕ_discrete x m) [
          | yes e ↦ absurd (let f = ap (λ (y : ℕ). get_or h (256 + y) 0) e in omega (arith, f, s.low (256 + m) (omega arith)))
          | no e ↦ s.level x t (omega arith) v w z
        ]

-- a mask more
pub sized_more : (h g n : List ℕ) (k b c m : ℕ) → 2 ≤ k → m < 256 → c ≡ get_or g (256 + m) 0 → TakenInto g n m c (k * 64 * 4) ((k * 64 + 64) * 4) → Sized h g k b m → Sized h n k b (m + 1)
unfolding relaxed
sized_more h g n zero b c m p lt e i s = absurd (omega arith)
sized_more h g n (suc k) b c m p lt e i s = record { low = λ j q. i.low j (omega arith) ∙ s.low j q; level = level }
  where
    less : suc k - 1 ≡ k
    less = omega arith

    -- the entry of size k + 1 and mask t, after the mask
    entry : (t : ℕ) → t < 256 → get_or n (suc k * 256 + t) 0 ≡ min (get_or g (suc k * 256 + t) 0) (get_or g (k * 256 + bit_xor m t) 0 + c)
    entry t q = i.high (suc k * 256 + t) (omega arith) (omega arith) ∙ ap (λ (x : ℕ). min (get_or g (suc k * 256 + t) 0) (get_or g x 0 + c)) (prev_at k t m q)

    level : (x t : ℕ) → x < m + 1 → x < 256 → t < 256 → get_or h (256 + x) 0 ≤ b → get_or n (suc k * 256 + t) 0 ≤ get_or h ((suc k - 1) * 256 + bit_xor x t) 0 + get_or h (256 + x) 0
    level x t u v w z =
        elim (ℕ_discrete x m) [
          | yes f ↦
              let old = s.low (k * 256 + bit_xor m t) (omega (arith, xor_lt 8 m t lt w)) in
              let price = s.low (256 + m) (omega arith) in
              let same = ap (λ (y : ℕ). get_or h ((suc k - 1) * 256 + bit_xor y t) 0 + get_or h (256 + y) 0) f in
              let size = ap (λ (y : ℕ). get_or h (y * 256 + bit_xor m t) 0) less in
              omega (arith, entry t w, old, price, same, size, e)
          | no f ↦ omega (arith, entry t w, s.level x t (omega arith) v w z)
        ]

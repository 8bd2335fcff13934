-- The table of a base tells by one look-up whether a line more brings a row nearer.
use mathlib.Core.Bool.{Bool, true, false, cond}
use mathlib.Core.List.{List, [], ◌∷◌, ◌++◌}
use mathlib.Core.Path.{◌≡◌, refl, sym, ap, ap₂, ◌∙◌}
use Prim.Native.Nat.{ℕ, suc, ◌+◌, ◌*◌, ◌^◌, ◌≤◌, ◌<◌, min}
use native.Mathlib.Decide.{dec_le}
use native.Mathlib.Nat.{zero-add}
use native.Mathlib.Omega.{arith}
use borrow.Author.Tests.{le-leb, lt-leb, leb-false}
use lib.Bits.{bit_xor, xor_lt, xor_block, xor_comm, xor_zero_r}
use lib.Dec.{leb}
use lib.ListN.{length, get_or}
use Rattle.circuit.specs.Lines.{greatest}
use Rattle.distance.specs.Base.{Line, Xor, made}
use Rattle.distance.specs.Distance.{gates, can}
use Rattle.distance.specs.Table.{least_sum, cost_at}
use Rattle.distance.proofs.Entries.{cost_is}
use Rattle.distance.proofs.Least.{can-least, least_snoc}
use Rattle.builder.specs.Rule.{Row, row, rows_of, reach, count, distances}
use Rattle.builder.specs.Kept.{SoundRow, SoundRows, Held, stays, misses, look_up, place_of, room_of, Tells}
use Rattle.builder.proofs.Reach.{under_far, reach-can}
use Rattle.builder.proofs.KeptUp.{made_byte}

-- the two ways of the look-up
module _ (h : List ℕ) (m c place room : ℕ) where
  pub misses_near : get_or h (bit_xor place m) 0 + c ≤ room → misses h m c place room ≡ 0
  unfolding misses
  misses_near p = rw (le-leb (get_or h (bit_xor place m) 0 + c) room p)

  pub misses-far : room < get_or h (bit_xor place m) 0 + c → misses h m c place room ≡ 1
  unfolding misses
  misses-far p = rw (lt-leb (get_or h (bit_xor place m) 0 + c) room p)

  pub misses-le : misses h m c place room ≤ 1
  unfolding misses
  misses-le = go (leb (get_or h (bit_xor place m) 0 + c) room)
    where
      go : (x : Bool) → cond x 0 1 ≤ 1
      go true = omega arith
      go false = omega arith

-- the place of a goal, and the entry that the line with mask m asks
pub place-xor : (k t m : ℕ) → t < 256 → m < 256 → bit_xor (k * 256 + t) m ≡ k * 256 + bit_xor m t
place-xor k t m p q =
    ap (bit_xor (k * 256 + t)) (sym (zero-add m)) ∙ xor_block 8 k 0 t m p q ∙ ap₂ (λ (x y : ℕ). x * 256 + y) (xor_zero_r k) (xor_comm t m)

-- the line made by gate q, of cost c
module _ (h : List ℕ) (ls : List Line) (sizes : ℕ) (q : Xor) (held : Held h ls sizes) where
  abbrev new : List Line
  new = ls ++ (made ls q ∷ [])

  abbrev c : ℕ
  c = 2 ^ (made ls q).depth

  mask : (made ls q).mask < 256
  mask = made_byte ls q held.bytes

  module _ (r : Row) (ok : SoundRow r) (byte : r.mask < 256) where
    -- the least sum for the row with the new line, as the table has it
    abbrev entry : ℕ → ℕ
    entry k = get_or h (k * 256 + bit_xor (made ls q).mask r.mask) 0 + c

    -- the test of one size less
    size_test : (k : ℕ) → k < sizes → can (suc k) r.mask (2 ^ r.limit) ls ≡ false → can (suc k) r.mask (2 ^ r.limit) new ≡ leb (entry k) (2 ^ r.limit)
    size_test k p f =
        let t = r.mask in
        let b = 2 ^ r.limit in
        let m = (made ls q).mask in
        let v = held.holds.at k (bit_xor m t) p (xor_lt 8 m t mask byte) in
        let o = leb-false (least_sum (suc k) t ls) b (sym (can-least (suc k) t b ls (under_far r ok)) ∙ f) in
        can-least (suc k) t b new (under_far r ok) ∙ go (dec_le (entry k) b) v o (least_snoc k t ls (made ls q))
      where
        go : Dec (entry k ≤ 2 ^ r.limit) → get_or h (k * 256 + bit_xor (made ls q).mask r.mask) 0 ≡ least_sum k (bit_xor (made ls q).mask r.mask) ls
            → 2 ^ r.limit < least_sum (suc k) r.mask ls
            → least_sum (suc k) r.mask new ≡ min (least_sum (suc k) r.mask ls) (c + least_sum k (bit_xor (made ls q).mask r.mask) ls)
            → leb (least_sum (suc k) r.mask new) (2 ^ r.limit) ≡ leb (entry k) (2 ^ r.limit)
        go (yes w) v o s = le-leb (least_sum (suc k) r.mask new) (2 ^ r.limit) (omega (arith, v, o, s, w)) ∙ sym (le-leb (entry k) (2 ^ r.limit) w)
        go (no w) v o s = lt-leb (least_sum (suc k) r.mask new) (2 ^ r.limit) (omega (arith, v, o, s, w)) ∙ sym (lt-leb (entry k) (2 ^ r.limit) (omega arith))

    pub tells_row : (k : ℕ) → k < sizes → reach ls r ≡ gates (suc k) → look_up h ls q (place_of k r.mask) (room_of k r.limit) ≡ stays new k r
    unfolding misses stays
    tells_row k p e =
        ap₂ (λ (j b : ℕ). cond (leb (get_or h j 0 + c) b) 0 1) (place-xor k r.mask (made ls q).mask byte mask) (cost_is r.limit (cost_at r.limit) ok.shallow refl)
        ∙ ap (λ (x : Bool). cond x 0 1) (sym (size_test k p ((reach-can ls r (suc k) e).1 k (omega arith) (omega arith))))

  -- so the table answers rightly of every row whose size it has
  pub table_tells : (ts limits : List ℕ) → length ts ≡ length limits → SoundRows (rows_of ts limits) → ((i : ℕ) → get_or ts i 0 < 256)
      → greatest (distances ls (rows_of ts limits)) ≤ sizes → Tells (look_up h ls q) ls new (rows_of ts limits)
  table_tells [] limits e ok byte top = tt
  table_tells (t ∷ ts) [] e ok byte top = absurd (omega arith)
  table_tells (t ∷ ts) (d ∷ limits) e ok byte top =
      (λ k z. tells_row (row t d) ok.0 (byte 0) k (omega (arith, top, ap count z)) z, table_tells ts limits (omega arith) ok.1 (λ i. byte (suc i)) (omega (arith, top)))

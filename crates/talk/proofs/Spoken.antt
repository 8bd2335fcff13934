-- What is said first in a room: a text that was put there is its first bytes, and the others are as they were. Assumes nothing.
use mathlib.Core.Path.{◌≡◌, ap, ◌∙◌, sym}
use mathlib.Core.List.{List, []}
use Prim.Native.Nat.{ℕ, ◌+◌, ◌≤◌, ◌<◌, min}
use native.Mathlib.Omega.{arith}
use native.Mathlib.Decide.{dec_lt}
use lib.ListN.{length, take, drop, length-take}
use lib.Seq.{take_at, drop_at, take_all}
use Rattle.text.specs.Putting.{Put}
use Rattle.text.proofs.Putting.{put-none, put_as, counted}
use Rattle.talk.specs.Saying.{Said}

-- a text that was put at the start of a room, within it
pub said : {before after : List ℕ} {r : ℕ} {s : List ℕ} → r ≤ length after → Put before 0 s after r → Said before after r s
said {before} {after} {r} {s} h p = record { counts = counted r after h; put = p }

-- the same text by another name
pub said_as : {before after : List ℕ} {r : ℕ} {s t : List ℕ} → s ≡ t → Said before after r s → Said before after r t
said_as e h = record { counts = h.counts; put = put_as e h.put }

module _ {before after : List ℕ} {r : ℕ} {s : List ℕ} (h : Said before after r s) where
  -- the text is the first bytes
  pub first_bytes : take r after ≡ s
  first_bytes = let p = h.put in ap (take r) p.room ∙ take_at s (drop (0 + length s) before) r (omega (arith, p.next))

  -- the others are as they were
  pub other_bytes : drop r after ≡ drop r before
  other_bytes =
      let p = h.put in
      ap (drop r) p.room ∙ drop_at s (drop (0 + length s) before) r (omega (arith, p.next)) ∙ ap (λ (k : ℕ). drop k before) (sym p.next)

-- `k` entries are shown of a list of `most`: the first `count`, or all where there are not so many
pub record Shown (k count most : ℕ) (l : List ℕ) : Type 0 where
  pub counts : k ≡ length (take k l)
  pub few : length (take k l) ≤ most
  pub first : take k l ≡ take count l

pub shown : {k : ℕ} (count most : ℕ) (l : List ℕ) → length l ≡ most → k ≡ min count most → Shown k count most l
shown {k} count most l e m = record { counts = omega (arith, length-take k l); few = omega (arith, length-take k l); first = ap (λ (x : ℕ). take x l) m ∙ by (dec_lt count most) }
  where
    by : Dec (count < most) → take (min count most) l ≡ take count l
    by (yes h) = let less : min count most ≡ count = omega arith in ap (λ (x : ℕ). take x l) less
    by (no h) =
        let all : min count most ≡ most = omega (arith, h) in
        ap (λ (x : ℕ). take x l) all ∙ take_all most l (omega arith) ∙ sym (take_all count l (omega (arith, h)))

-- nothing is said
pub silent_said : (room : List ℕ) → Said room room 0 []
silent_said room = said (omega arith) (put-none room 0)

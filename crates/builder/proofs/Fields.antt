-- The goals as the code has them: a field of goal i is entry i of the list of that field.
use mathlib.Core.List.{List}
use mathlib.Core.Path.{◌≡◌, sym, ap₂, ◌∙◌}
use Prim.Native.Nat.{ℕ, suc, ◌+◌, ◌*◌, ◌≤◌, ◌<◌}
use native.Mathlib.Omega.{arith}
use lib.ListN.{length, get_or, set, take, length-map, get_or-map}
use Rattle.std.proofs.lemmas.List.{map-set, take-map}
use Rattle.distance.specs.Table.{cost_at}
use Rattle.builder.specs.declared.pairs.Goal.{Goal}
use Rattle.builder.specs.Kept.{misses, places, rooms, lows, Goals}
use Rattle.builder.proofs.Lookup.{misses-le}
use Rattle.builder.proofs.Goals.{Missed, Squared, Aiming, squared_more, gap_le, aiming_goal}
use Rattle.builder.proofs.Passing.{goal_more, goal_small}

-- goal i, and zeros past the last
abbrev pub at : List Goal → ℕ → Goal
at gs i = get_or gs i (record { place = 0; room = 0; low = 0 })

module _ (gs : List Goal) (i : ℕ) where
  place_at : get_or (places gs) i 0 ≡ (at gs i).place
  place_at = get_or-map (λ (g : Goal). g.place) gs i (record { place = 0; room = 0; low = 0 })

  room_at : get_or (rooms gs) i 0 ≡ (at gs i).room
  room_at = get_or-map (λ (g : Goal). g.room) gs i (record { place = 0; room = 0; low = 0 })

  low_at : get_or (lows gs) i 0 ≡ (at gs i).low
  low_at = get_or-map (λ (g : Goal). g.low) gs i (record { place = 0; room = 0; low = 0 })

  pub place_in : Goals (places gs) (rooms gs) (lows gs) → (at gs i).place < 2048
  place_in g = omega (arith, g.below i, place_at)

pub places_length : (gs : List Goal) → length (places gs) ≡ length gs
places_length gs = length-map gs (λ (g : Goal). g.place)

-- goal i weighed: x is what a look-up says of it
module _ (gs : List Goal) (h : List ℕ) (m c i s x : ℕ) (g : Goals (places gs) (rooms gs) (lows gs)) (in-range : i < length gs) (e : x ≡ misses h m c (at gs i).place (at gs i).room) where
  told : x ≡ misses h m c (get_or (places gs) i 0) (get_or (rooms gs) i 0)
  told = e ∙ sym (ap₂ (misses h m c) (place_at gs i) (room_at gs i))

  below : i < length (places gs)
  below = omega (arith, places_length gs)

  pub weighed_more : Missed (misses h m c) (places gs) (rooms gs) (lows gs) i s → Missed (misses h m c) (places gs) (rooms gs) (lows gs) (i + 1) (s + x)
  weighed_more = goal_more (places gs) (rooms gs) (lows gs) h m c i s x g below told

  pub weighed_small : Missed (misses h m c) (places gs) (rooms gs) (lows gs) i s → s + x ≤ 512
  weighed_small = goal_small (places gs) (rooms gs) (lows gs) h m c i s x g below told

  -- its distance is small,
  pub squared_small : (at gs i).low + x ≤ 8
  squared_small = omega (arith, gap_le (misses h m c) (places gs) (rooms gs) (lows gs) g (misses-le h m c) i, low_at gs i, told)

  -- and the square of it is added
  pub squared_next : Squared (misses h m c) (places gs) (rooms gs) (lows gs) i s → Squared (misses h m c) (places gs) (rooms gs) (lows gs) (i + 1) (s + ((at gs i).low + x) * ((at gs i).low + x))
  squared_next w =
      let more = squared_more (misses h m c) (places gs) (rooms gs) (lows gs) g (misses-le h m c) i s below w in
      rw (sym (low_at gs i), told) more

-- a goal is put
pub goal_put : (gs : List Goal) (ts limits gaps : List ℕ) (k floor i g room : ℕ) → length ts ≡ length limits → length ts ≡ length gaps → length ts ≤ 32 → i < length ts
    → Aiming ts limits gaps (places gs) (rooms gs) (lows gs) k floor i → get_or gaps i 0 ≡ suc g → g < 8 → room ≡ cost_at (get_or limits i 0)
    → let new = set gs k (record { place = g * 256 + get_or ts i 0; room = room; low = g }) in Aiming ts limits gaps (places new) (rooms new) (lows new) (k + 1) (floor + g) (i + 1)
goal_put gs ts limits gaps k floor i g room e e' few p w z small r =
    let goal : Goal = record { place = g * 256 + get_or ts i 0; room = room; low = g } in
    rw (map-set (λ (x : Goal). x.place) gs k goal, map-set (λ (x : Goal). x.room) gs k goal, map-set (λ (x : Goal). x.low) gs k goal)
    (aiming_goal ts limits gaps (places gs) (rooms gs) (lows gs) k floor i e e' few p w g room z small r)

-- the first k of them
module _ (k : ℕ) (gs : List Goal) where
  pub places_taken : take k (places gs) ≡ places (take k gs)
  places_taken = take-map (λ (g : Goal). g.place) k gs

  pub rooms_taken : take k (rooms gs) ≡ rooms (take k gs)
  rooms_taken = take-map (λ (g : Goal). g.room) k gs

  pub lows_taken : take k (lows gs) ≡ lows (take k gs)
  lows_taken = take-map (λ (g : Goal). g.low) k gs

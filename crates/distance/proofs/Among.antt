-- The lines that a query answers: at most as many as there are inputs, each one of its base. Assumes nothing.
use mathlib.Core.Bool.{Bool, true, false, cond, ◌&&◌}
use mathlib.Core.List.{List, [], ◌∷◌}
use Prim.Native.Nat.{ℕ, zero, suc, ◌+◌, ◌-◌, ◌^◌, ◌≤◌, ◌<◌}
use native.Mathlib.Omega.{arith}
use lib.Bits.{bit_xor}
use lib.Dec.{leb}
use lib.ListN.{length}
use Rattle.std.specs.Prelude.{Result, Ok, Err}
use Rattle.distance.specs.declared.Refusal.{Refusal}
use Rattle.distance.specs.Base.{Line, base_of}
use Rattle.distance.specs.Distance.{can, gap_from, distance, numbers, first_set, gap_lines, gates}
use Rattle.distance.specs.Query.{look_at, lines_where, lines_of}
use Rattle.distance.proofs.Each.{Each, each_to}

-- at most n numbers, each below m
pub record Among (n m : ℕ) (xs : List ℕ) : Type 0 where
  pub few : length xs ≤ n
  pub below : Each (λ (x : ℕ). x < m) xs

none_among : (n m : ℕ) → Among n m []
none_among n m = record { few = omega arith; below = tt }

-- a set's numbers are numbers of its base
pub numbers_each : (i : ℕ) (ls : List Line) (c : List Bool) → Each (λ (k : ℕ). k < i + length ls) (numbers i ls c)
numbers_each i [] c = tt
numbers_each i (l ∷ ls) [] = tt
numbers_each i (l ∷ ls) (true ∷ c) = (omega arith, each_to (suc i + length ls) (i + suc (length ls)) (numbers (suc i) ls c) (omega arith) (numbers_each (suc i) ls c))
numbers_each i (l ∷ ls) (false ∷ c) = each_to (suc i + length ls) (i + suc (length ls)) (numbers (suc i) ls c) (omega arith) (numbers_each (suc i) ls c)

pub numbers_below : (ls : List Line) (c : List Bool) → Each (λ (k : ℕ). k < length ls) (numbers 0 ls c)
numbers_below ls c = each_to (0 + length ls) (length ls) (numbers 0 ls c) (omega arith) (numbers_each 0 ls c)

-- a set has no more lines than were asked for
first_few : (i : ℕ) (ls : List Line) (k t b : ℕ) → length (numbers i ls (first_set k t b ls)) ≤ k
first_few i [] zero t b = omega arith
first_few i [] (suc k) t b = omega arith
first_few i (l ∷ ls) zero t b = omega arith
first_few i (l ∷ ls) (suc k) t b =
    go (leb (2 ^ l.depth) b && can k (bit_xor l.mask t) (b - 2 ^ l.depth) ls)
    (first_set k (bit_xor l.mask t) (b - 2 ^ l.depth) ls) (first_set (suc k) t b ls)
    (first_few (suc i) ls k (bit_xor l.mask t) (b - 2 ^ l.depth)) (first_few (suc i) ls (suc k) t b) where
      go : (x : Bool) (p q : List Bool) → length (numbers (suc i) ls p) ≤ k → length (numbers (suc i) ls q) ≤ suc k
          → length (numbers i (l ∷ ls) (cond x (true ∷ p) (false ∷ q))) ≤ suc k
      go true p q a b = omega arith
      go false p q a b = b

gap_among : (f g t D : ℕ) (ls : List Line) → Among (g + f) (length ls) (gap_lines (gap_from f g t (2 ^ D) ls) t D ls)
gap_among zero g t D ls = none_among (g + 0) (length ls)
gap_among (suc f) g t D ls = go (can (suc g) t (2 ^ D) ls) (gap_among f (suc g) t D ls) where
  go : (x : Bool) → Among (suc g + f) (length ls) (gap_lines (gap_from f (suc g) t (2 ^ D) ls) t D ls)
      → Among (g + suc f) (length ls) (gap_lines (cond x (gates g) (gap_from f (suc g) t (2 ^ D) ls)) t D ls)
  go true r =
      let c = first_set (suc g) t (2 ^ D) ls in
      record { few = omega (arith, first_few 0 ls (suc g) t (2 ^ D)); below = numbers_below ls c }
  go false r = record { few = omega (arith, r.few); below = r.below }

pub lines_among : (n : ℕ) (ms ds : List ℕ) (t D : ℕ) → Among n (length (base_of ms ds)) (lines_of n ms ds t D)
unfolding lines_of
lines_among n ms ds t D = go (look_at n ms ds t D) where
  go : (l : Result (Unit {0}) Refusal) → Among n (length (base_of ms ds)) (lines_where l (gap_lines (distance n (base_of ms ds) t D) t D (base_of ms ds)))
  go (Ok u) = let r = gap_among n 0 t D (base_of ms ds) in record { few = omega (arith, r.few); below = r.below }
  go (Err why) = none_among n (length (base_of ms ds))

-- a base has no more lines than masks
pub base_short : (ms ds : List ℕ) → length (base_of ms ds) ≤ length ms
base_short [] ds = omega arith
base_short (m ∷ ms) [] = omega arith
base_short (m ∷ ms) (d ∷ ds) = omega (arith, base_short ms ds)

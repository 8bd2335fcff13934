-- Laws of which lines a search answers: how many, and where they are put.
use mathlib.Core.Bool.{Bool, true, false, cond}
use mathlib.Core.List.{List, [], ◌∷◌, ◌++◌}
use mathlib.Core.Path.{◌≡◌, refl, sym, ap, ap₂, ◌∙◌}
use Prim.Native.Nat.{ℕ, zero, suc, ◌+◌, ◌-◌, ◌^◌, ◌≤◌, ◌<◌}
use native.Mathlib.Omega.{arith}
use native.Mathlib.Numerals.{add-one}
use lib.ListN.{length, set, replicate}
use borrow.Author.Tests.{ne_eqb}
use Rattle.std.specs.Prelude.{Option, Some, None}
use Rattle.distance.specs.declared.Found.{Found}
use Rattle.distance.specs.Base.{Line, base_of, set_size}
use Rattle.distance.specs.Distance.{Gap, gates, never, gap_from, distance, can_at, numbers, first_set, first_at}
use Rattle.distance.specs.Query.{with_lines, found_for}
use Rattle.distance.specs.Table.{put_from, searched}
use Rattle.distance.proofs.First.{first_is}
use Rattle.distance.proofs.Search.{can-zero, first_zero}

-- a set has as many line numbers as lines
pub numbers-length : (i : ℕ) (ls : List Line) (c : List Bool) → length (numbers i ls c) ≡ set_size ls c
numbers-length i [] c = refl
numbers-length i (l ∷ ls) [] = refl
numbers-length i (l ∷ ls) (true ∷ c) = ap suc (numbers-length (suc i) ls c)
numbers-length i (l ∷ ls) (false ∷ c) = numbers-length (suc i) ls c

-- a search that answers lines has found a set, and one that answers none has not
pub some_found : (x : Bool) (l m : List ℕ) → Some l ≡ cond x (Some m) None → (x ≡ true) × (l ≡ m)
some_found true l m e = (refl, cc)
some_found false l m e = absurd (cc)

pub none_found : (r : Option (List ℕ)) (x : Bool) (m : List ℕ) → r ≡ cond x (Some m) None → ((l : List ℕ) → r ≡ Some l → ⊥) → x ≡ false
none_found r true m e miss = absurd (miss m e)
none_found r false m e miss = refl

-- one line more, before those that were put
pub put_more : (h l xs ys : List ℕ) (at i : ℕ) → l ≡ put_from h (at + 1) xs → ys ≡ i ∷ xs → set l at i ≡ put_from h at ys
put_more h l xs ys at i e w = ap (λ (x : List ℕ). set x at i) (e ∙ ap (λ (n : ℕ). put_from h n xs) (add-one at)) ∙ ap (put_from h at) (sym w)

-- ---- what a search answers: no line more is asked; a line and the lines of a search for one fewer; there are none
module _ (ms ds : List ℕ) (i k t b at : ℕ) where
  pub searched_zero : k ≡ 0 → t ≡ 0 → Some (replicate 8 0) ≡ searched ms ds i k t b at
  searched_zero e z = rw (first_zero ms ds i k t b e, e, can-zero ms ds i t b, z)

  pub searched_not : k ≡ 0 → (t ≡ 0 → ⊥) → None ≡ searched ms ds i k t b at
  searched_not e z = rw (e, can-zero ms ds i t b, ne_eqb t 0 z)

  pub searched_more : (j : ℕ) (xs l : List ℕ) → (can_at ms ds i k t b ≡ true) × (first_at ms ds i k t b ≡ j ∷ xs) → l ≡ put_from (replicate 8 0) (at + 1) xs
      → Some (set l at j) ≡ searched ms ds i k t b at
  searched_more j xs l there e = rw (there.0) (ap Some (put_more (replicate 8 0) l xs (first_at ms ds i k t b) at j e there.1))

  pub searched_none : can_at ms ds i k t b ≡ false → None ≡ searched ms ds i k t b at
  searched_none e = rw e

-- past the first entry
put_tail : (h xs : List ℕ) (at y : ℕ) → put_from (y ∷ h) (suc at) xs ≡ y ∷ put_from h at xs
put_tail h [] at y = refl
put_tail h (x ∷ xs) at y = ap (λ (l : List ℕ). set l (suc at) x) (put_tail h xs (suc at) y)

-- entries put into zeros
put_zeros : (n : ℕ) (xs : List ℕ) → length xs ≤ n → put_from (replicate n 0) 0 xs ≡ xs ++ replicate (n - length xs) 0
put_zeros n [] h = let e : n - 0 ≡ n = omega arith in rw e
put_zeros zero (x ∷ xs) h = absurd (omega arith)
put_zeros (suc n) (x ∷ xs) h =
    let e : suc n - suc (length xs) ≡ n - length xs = omega arith in
    ap (λ (l : List ℕ). set l 0 x) (put_tail (replicate n 0) xs 0 0) ∙ ap (λ (l : List ℕ). x ∷ l) (put_zeros n xs (omega arith)) ∙ rw e

-- ---- what is answered, where b is what may be spent

abbrev with_count : ℕ → List ℕ → ℕ → Found
with_count g l k = record { gates = g; lines = l; count = k }

module _ (ms ds : List ℕ) (n t D b : ℕ) (w : b ≡ 2 ^ D) where
  abbrev ls : List Line
  ls = base_of ms ds

  -- so many gates, and the first set's lines in eight entries
  pub answer_found : (g : ℕ) (h : List ℕ) → g < 8 → gap_from n 0 t b ls ≡ gates g → Some h ≡ searched ms ds 0 (g + 1) t b 0
      → Some (record { gates = g; lines = h; count = g + 1 }) ≡ found_for (distance n ls t D) t D ls
  unfolding can_at first_at
  answer_found g h few gap told =
      let xs = numbers 0 ls (first_set (suc g) t b ls) in
      let put = some_found (can_at ms ds 0 (g + 1) t b) h (put_from (replicate 8 0) 0 (first_at ms ds 0 (g + 1) t b)) told in
      let many : length xs ≡ suc g = numbers-length 0 ls (first_set (suc g) t b ls) ∙ (first_is ls (suc g) t b (rw (← add-one g) put.0)).size in
      let count : g + 1 ≡ length xs = omega arith in
      ap₂ (λ (l : List ℕ) (k : ℕ). Some (with_count g l k)) (put.1 ∙ rw (add-one g) (put_zeros 8 xs (omega arith))) count
      ∙ ap (λ (x : ℕ). with_lines (Some g) (numbers 0 ls (first_set (suc g) t x ls))) w
      ∙ ap (λ (r : Gap). found_for r t D ls) (sym gap ∙ ap (λ (x : ℕ). gap_from n 0 t x ls) w)

  -- no size has a set
  pub answer_none : gap_from n 0 t b ls ≡ never → None ≡ found_for (distance n ls t D) t D ls
  answer_none gap = ap (λ (x : Gap). found_for x t D ls) (sym gap ∙ ap (λ (x : ℕ). gap_from n 0 t x ls) w)

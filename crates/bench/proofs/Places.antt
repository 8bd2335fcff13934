-- The list of marked places: ascending, each marked place and no other, as long as the set is large; and one line more. Assumes nothing.
use mathlib.Core.Path.{◌≡◌, refl, ap, ap₂, ◌∙◌, sym}
use mathlib.Core.Bool.{Bool, true, false, true≢false, cond}
use mathlib.Core.Logic.{⊎_elim}
use mathlib.Core.List.Memᴰ
use mathlib.Core.List.{List, [], ◌∷◌, ◌++◌, append-nil, Memᴰ}
use Prim.Native.Nat.{ℕ, zero, suc, ◌≤◌, ◌<◌, ◌-◌, ◌+◌}
use native.Mathlib.Omega.{arith}
use lib.ListN.{length, get_or, set, replicate, length-append}
use Rattle.circuit.specs.Lines.{padded}
use Rattle.circuit.specs.Sizes.{most_lines}
use Rattle.circuit.proofs.Padding.{padded-put}
use Rattle.bench.specs.declared.Reworked.{Reworked}
use Rattle.bench.specs.Calls.{places_from, size_of, reworking}

-- the places in two lists, one after the other
pub places_append : (i : ℕ) (xs ys : List Bool) → places_from i (xs ++ ys) ≡ places_from i xs ++ places_from (i + length xs) ys
unfolding places_from
places_append i [] ys = let e : i ≡ i + 0 = omega arith in ap (λ (k : ℕ). places_from k ys) e
places_append i (x ∷ xs) ys =
    let e : suc i + length xs ≡ i + suc (length xs) = omega arith in
    go x (places_append (suc i) xs ys ∙ ap (λ (k : ℕ). places_from (suc i) xs ++ places_from k ys) e) where
      go : (x : Bool) → places_from (suc i) (xs ++ ys) ≡ places_from (suc i) xs ++ places_from (i + suc (length xs)) ys
          → places_from i (x ∷ (xs ++ ys)) ≡ places_from i (x ∷ xs) ++ places_from (i + suc (length xs)) ys
      go true r = ap (λ (l : List ℕ). i ∷ l) r
      go false r = r

-- ---- the count

-- the size of the set is the length of the list
pub size_places : (i : ℕ) (xs : List Bool) → size_of xs ≡ length (places_from i xs)
unfolding places_from size_of
size_places i [] = refl
size_places i (true ∷ xs) = ap suc (size_places (suc i) xs)
size_places i (false ∷ xs) = size_places (suc i) xs

pub places_none : (i m : ℕ) → places_from i (replicate m false) ≡ []
unfolding places_from
places_none i zero = refl
places_none i (suc m) = places_none (suc i) m

-- ---- which places are listed, and in which order

-- a place is i at least, and marked
abbrev Marked : ℕ → List Bool → ℕ → Type 0
Marked i xs k = (i ≤ k) × (get_or xs (k - i) false ≡ true)

listed_from : (i k : ℕ) (xs : List Bool) → Memᴰ k (places_from i xs) → Marked i xs k
unfolding places_from
listed_from i k [] m = absurd (Memᴰ.not-nil m)
listed_from i k (x ∷ xs) m = go x m (listed_from (suc i) k xs) where
  later : (x : Bool) → Marked (suc i) xs k → Marked i (x ∷ xs) k
  later x r =
      let e : k - i ≡ suc (k - suc i) = omega (arith, r.0) in
      (omega (arith, r.0), ap (λ (n : ℕ). get_or (x ∷ xs) n false) e ∙ r.1)

  go : (x : Bool) → Memᴰ k (places_from i (x ∷ xs)) → (Memᴰ k (places_from (suc i) xs) → Marked (suc i) xs k) → Marked i (x ∷ xs) k
  go true m f =
      ⊎_elim (λ e. let z : k - i ≡ 0 = omega arith in (omega arith, ap (λ (n : ℕ). get_or (true ∷ xs) n false) z)) (λ m. later true (f m)) (Memᴰ.cases_cons m)
  go false m f = later false (f m)

marked_from : (i k : ℕ) (xs : List Bool) → get_or xs k false ≡ true → Memᴰ (i + k) (places_from i xs)
unfolding places_from
marked_from i k [] h = absurd (true≢false (sym h))
marked_from i zero (true ∷ xs) h = let e : i + 0 ≡ i = omega arith in Memᴰ.head e
marked_from i zero (false ∷ xs) h = absurd (true≢false (sym h))
marked_from i (suc k) (true ∷ xs) h = let e : i + suc k ≡ suc i + k = omega arith in Memᴰ.tail (Memᴰ.cast e (marked_from (suc i) k xs h))
marked_from i (suc k) (false ∷ xs) h = let e : i + suc k ≡ suc i + k = omega arith in Memᴰ.cast e (marked_from (suc i) k xs h)

-- each place that is listed is marked
pub listed-marked : (marks : List Bool) (k : ℕ) → Memᴰ k (places_from 0 marks) → get_or marks k false ≡ true
listed-marked marks k m = let e : k ≡ k - 0 = omega arith in ap (λ (n : ℕ). get_or marks n false) e ∙ (listed_from 0 k marks m).1

-- each place that is marked is listed
pub marked-listed : (marks : List Bool) (k : ℕ) → get_or marks k false ≡ true → Memᴰ k (places_from 0 marks)
marked-listed marks k h = let e : k ≡ 0 + k = omega arith in Memᴰ.cast e (marked_from 0 k marks h)

-- a list of numbers ascends, so none is there twice
abbrev pub Ascending : List ℕ → Type 0
Ascending l = (a b : ℕ) → a < b → b < length l → get_or l a 0 < get_or l b 0

places_least : (i : ℕ) (xs : List Bool) (b : ℕ) → b < length (places_from i xs) → i ≤ get_or (places_from i xs) b 0
unfolding places_from
places_least i [] b h = absurd (omega arith)
places_least i (true ∷ xs) zero h = omega arith
places_least i (true ∷ xs) (suc b) h = omega (arith, places_least (suc i) xs b (omega arith))
places_least i (false ∷ xs) b h = omega (arith, places_least (suc i) xs b h)

pub places_ascend : (i : ℕ) (xs : List Bool) → Ascending (places_from i xs)
unfolding places_from
places_ascend i [] a b h l = absurd (omega arith)
places_ascend i (true ∷ xs) a zero h l = absurd (omega arith)
places_ascend i (true ∷ xs) zero (suc b) h l = omega (arith, places_least (suc i) xs b (omega arith))
places_ascend i (true ∷ xs) (suc a) (suc b) h l = places_ascend (suc i) xs a b (omega arith) (omega arith)
places_ascend i (false ∷ xs) a b h l = places_ascend (suc i) xs a b h l

-- ---- the list as it grows, a line at a time

-- these lines, and so many of them, are that set as it is answered
abbrev pub Tells : List ℕ → ℕ → List Bool → Type 0
Tells lines count marks = ◌≡◌ {A = Reworked} (record { lines = lines; count = count }) (reworking marks)

-- what makes two of them one: the same list
told : (lines : List ℕ) (count : ℕ) (marks : List Bool) → lines ≡ padded most_lines 0 (places_from 0 marks) → count ≡ length (places_from 0 marks) → Tells lines count marks
told lines count marks p q = let n = q ∙ sym (size_places 0 marks) in λ i. record { lines = p i; count = n i }

-- no line
pub tells_none : (m : ℕ) → Tells (replicate most_lines 0) 0 (replicate m false)
tells_none m =
    let e = sym (places_none 0 m) in
    told (replicate most_lines 0) 0 (replicate m false) (ap (padded most_lines 0) e) (ap length e)

module _ (lines : List ℕ) (count : ℕ) (marks : List Bool) (t : Tells lines count marks) where
  abbrev L : List ℕ
  L = places_from 0 marks

  counts : count ≡ length L
  counts = ap (λ (e : Reworked). e.count) t ∙ size_places 0 marks

  places_next : (x : Bool) → places_from 0 (marks ++ (x ∷ [])) ≡ L ++ cond x (length marks ∷ []) []
  unfolding places_from
  places_next x =
      let z : 0 + length marks ≡ length marks = omega arith in
      places_append 0 marks (x ∷ []) ∙ ap (λ (k : ℕ). L ++ places_from k (x ∷ [])) z

  -- a line more that is marked
  pub tells_hit : (v : ℕ) → v ≡ length marks → count < most_lines → Tells (set lines count v) (count + 1) (marks ++ (true ∷ []))
  tells_hit v e h =
      let n = places_next true in
      told (set lines count v) (count + 1) (marks ++ (true ∷ []))
      (ap₂ (λ (l : List ℕ) (y : ℕ). set l count y) (ap (λ (e : Reworked). e.lines) t) e ∙ padded-put most_lines 0 L count (length marks) counts h ∙ ap (padded most_lines 0) (sym n))
      (sym (ap length n ∙ length-append L (length marks ∷ []) ∙ ap (λ (x : ℕ). x + 1) (sym counts)))

  -- a line more that is not
  pub tells_miss : Tells lines count (marks ++ (false ∷ []))
  tells_miss =
      let n = sym (places_next false ∙ append-nil L) in
      told lines count (marks ++ (false ∷ [])) (ap (λ (e : Reworked). e.lines) t ∙ ap (padded most_lines 0) n) (counts ∙ ap length n)

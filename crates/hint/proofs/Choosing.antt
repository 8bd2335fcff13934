-- A set of a base whose lines are lines of a circuit, as a list of their numbers there: the same size, sum and cost, and each list of such
-- lines is a set. Assumes nothing.
use mathlib.Core.Path.{◌≡◌, refl, ap, ap₂, ◌∙◌, sym}
use mathlib.Core.Bool.{Bool, true, false, cond}
use mathlib.Core.Logic.{inl, inr, ⊎_elim}
use mathlib.Core.List.{List, [], ◌∷◌, map, Memᴰ}
use Prim.Native.Nat.{ℕ, zero, suc, ◌+◌, ◌^◌, ◌≤◌, ◌<◌}
use native.Mathlib.Omega.{arith}
use borrow.Author.Tests.{eqb-true, eqb-false, leb-true, le-leb}
use lib.Bits.{bit_xor}
use lib.Dec.{eqb, leb}
use lib.ListN.{length, get_or, replicate, length-map, length-replicate, get_or-map, get_or-eq_default}
use Rattle.circuit.specs.Lines.{Listing, gate_at, depth_step}
use Rattle.circuit.specs.Rows.{sum_of}
use Rattle.circuit.proofs.LineLaws.{place, lines_length}
use Rattle.distance.specs.Base.{Line, line, base_of, set_size, mask_of, cost_of}
use Rattle.distance.specs.Distance.{numbers, Leads}
use Rattle.distance.proofs.Each.{Each, each_map, each_at, each_put, each_get}
use Rattle.distance.proofs.Making.{whole, taken_mask, taken_cost}
use Rattle.distance.proofs.Taking.{taken, taken_each, taken-map, taken_at, taken_size}
use Rattle.bench.proofs.Places.{Ascending, places_ascend, listed-marked, marked-listed}
use Rattle.hint.specs.Hint.{depths_of, shallow, picked}

-- ---- lists of numbers

-- the sum of 2 ^ depth over some depths
abbrev pub spent_on : List ℕ → ℕ
spent_on [] = 0
spent_on (d ∷ ds) = 2 ^ d + spent_on ds

-- an ascending list: what is first is below the rest, and the rest ascends
module _ (x : ℕ) (xs : List ℕ) where
  ascending_first : Ascending (x ∷ xs) → Each (λ (y : ℕ). x < y) xs
  ascending_first up = each_put (λ (y : ℕ). x < y) xs (λ k h. up 0 (suc k) (omega arith) (omega arith))

  ascending_rest : Ascending (x ∷ xs) → Ascending xs
  ascending_rest up a b h l = up (suc a) (suc b) (omega arith) (omega arith)

  ascending_more : Each (λ (y : ℕ). x < y) xs → Ascending xs → Ascending (x ∷ xs)
  ascending_more e up a zero h l = absurd (omega arith)
  ascending_more e up zero (suc b) h l = each_get (λ (y : ℕ). x < y) xs b (omega arith) e
  ascending_more e up (suc a) (suc b) h l = up a b (omega arith) (omega arith)

-- what stands there, whatever counts past the end
there_same : (l : List ℕ) (k a b : ℕ) → k < length l → get_or l k a ≡ get_or l k b
there_same [] k a b h = absurd (omega arith)
there_same (x ∷ l) zero a b h = refl
there_same (x ∷ l) (suc k) a b h = there_same l k a b (omega arith)

-- ---- the lines at most 15 deep

-- a circuit has a line for each input and each gate
pub lines_many : (c : Listing) → length (depths_of c) ≡ c.inputs + length c.gates
lines_many c = lines_length depth_step 0 (replicate c.inputs 0) (gate_at c) (length c.gates) ∙ ap (λ (k : ℕ). k + length c.gates) (length-replicate c.inputs 0)

module _ (ds : List ℕ) where
  pub shallow_ascends : Ascending (shallow ds)
  unfolding shallow
  shallow_ascends = places_ascend 0 (map (λ (d : ℕ). leb d 15) ds)

  -- each is there, and at most 15 deep
  pub shallow_in : (k : ℕ) → Memᴰ k (shallow ds) → (k < length ds) × (get_or ds k 0 ≤ 15)
  unfolding shallow
  shallow_in k m =
      let q = leb-true (get_or ds k 16) 15 (sym (get_or-map (λ (d : ℕ). leb d 15) ds k 16) ∙ listed-marked (map (λ (d : ℕ). leb d 15) ds) k m) in
      let h : k < length ds = ⊎_elim (λ l. l) (λ n. absurd (omega (arith, get_or-eq_default ds 16 {n = k} (⊎_elim (λ e. omega arith) (λ l. omega arith) n)))) (place k (length ds)) in
      (h, omega (arith, there_same ds k 16 0 h))

  -- and each such line is among them
  pub shallow-has : (k : ℕ) → k < length ds → get_or ds k 0 ≤ 15 → Memᴰ k (shallow ds)
  unfolding shallow
  shallow-has k h e =
      marked-listed (map (λ (d : ℕ). leb d 15) ds) k
      (get_or-map (λ (d : ℕ). leb d 15) ds k 16 ∙ ap (λ (d : ℕ). leb d 15) (there_same ds k 16 0 h) ∙ le-leb (get_or ds k 0) 15 e)

-- ---- the numbers that a set takes

pub taken_ascends : (is : List ℕ) (c : List Bool) → Ascending is → Ascending (taken is c)
taken_ascends [] c up = up
taken_ascends (i ∷ is) [] up = λ a b h l. absurd (omega arith)
taken_ascends (i ∷ is) (true ∷ c) up =
    ascending_more i (taken is c) (taken_each (λ (y : ℕ). i < y) is c (ascending_first i is up)) (taken_ascends is c (ascending_rest i is up))
taken_ascends (i ∷ is) (false ∷ c) up = taken_ascends is c (ascending_rest i is up)

-- over the base in which each has the mask and the depth of its number
module _ (m d : ℕ → ℕ) where
  abbrev pub base_for : List ℕ → List Line
  base_for is = base_of (map m is) (map d is)

  abbrev line_for : ℕ → Line
  line_for i = line (m i) (d i)

  base-map : (is : List ℕ) → base_for is ≡ map line_for is
  base-map [] = refl
  base-map (i ∷ is) = ap (λ (l : List Line). line_for i ∷ l) (base-map is)

  pub base-length : (is : List ℕ) → length (base_for is) ≡ length is
  base-length is = ap length (base-map is) ∙ length-map is line_for

  base-taken : (is : List ℕ) (c : List Bool) → taken (base_for is) c ≡ map line_for (taken is c)
  base-taken is c = ap (λ (l : List Line). taken l c) (base-map is) ∙ taken-map line_for is c

  -- what all of some lines sum to, and cost
  pub whole_mask : (ys : List ℕ) → mask_of (map line_for ys) (whole (map line_for ys)) ≡ sum_of (map m ys)
  unfolding sum_of
  whole_mask [] = refl
  whole_mask (y ∷ ys) = ap (bit_xor (m y)) (whole_mask ys)

  pub whole_cost : (ys : List ℕ) → cost_of (map line_for ys) (whole (map line_for ys)) ≡ spent_on (map d ys)
  whole_cost [] = refl
  whole_cost (y ∷ ys) = ap (λ (n : ℕ). 2 ^ d y + n) (whole_cost ys)

  -- and a set of them
  module _ (is : List ℕ) (c : List Bool) where
    pub set-size : set_size (base_for is) c ≡ length (taken is c)
    set-size = sym (taken_size 0 is (base_for is) c (base-length is))

    pub set_mask : mask_of (base_for is) c ≡ sum_of (map m (taken is c))
    set_mask = sym (taken_mask (base_for is) c) ∙ ap (λ (l : List Line). mask_of l (whole l)) (base-taken is c) ∙ whole_mask (taken is c)

    pub set_cost : cost_of (base_for is) c ≡ spent_on (map d (taken is c))
    set_cost = sym (taken_cost (base_for is) c) ∙ ap (λ (l : List Line). cost_of l (whole l)) (base-taken is c) ∙ whole_cost (taken is c)

    -- they are the lines at its numbers
    pub set-numbers : picked (numbers 0 (base_for is) c) is ≡ taken is c
    set-numbers = taken_at 0 [] is (base_for is) c 0 (base-length is) refl

-- ---- each ascending list of such numbers is taken by some flags

abbrev pub flags_for : List ℕ → List ℕ → List Bool
flags_for [] ys = []
flags_for (i ∷ is) [] = []
flags_for (i ∷ is) (y ∷ ys) = let hit = true ∷ flags_for is ys in let miss = false ∷ flags_for is (y ∷ ys) in cond (eqb i y) hit miss

-- what is above the first is among the rest
past_first : (i : ℕ) (is ys : List ℕ) → Each (λ (y : ℕ). i < y) ys → Each (λ (y : ℕ). Memᴰ y (i ∷ is)) ys → Each (λ (y : ℕ). Memᴰ y is) ys
past_first i is [] a e = tt
past_first i is (y ∷ ys) a e = (⊎_elim (λ q. absurd (omega (arith, a.0))) (λ r. r) (mathlib.Core.List.Memᴰ.cases_cons e.0), past_first i is ys a.1 e.1)

pub taken_flags : (is ys : List ℕ) → Ascending is → Ascending ys → Each (λ (y : ℕ). Memᴰ y is) ys → taken is (flags_for is ys) ≡ ys
taken_flags [] [] a b e = refl
taken_flags [] (y ∷ ys) a b e = absurd (mathlib.Core.List.Memᴰ.not-nil e.0)
taken_flags (i ∷ is) [] a b e = refl
taken_flags (i ∷ is) (y ∷ ys) a b e =
    let rest = ascending_rest i is a in
    go (eqb i y) refl (taken_flags is ys rest (ascending_rest y ys b)) (taken_flags is (y ∷ ys) rest b) where
      later : Each (λ (z : ℕ). y < z) ys
      later = ascending_first y ys b

      go : (x : Bool) → eqb i y ≡ x → (Each (λ (z : ℕ). Memᴰ z is) ys → taken is (flags_for is ys) ≡ ys)
          → (Each (λ (z : ℕ). Memᴰ z is) (y ∷ ys) → taken is (flags_for is (y ∷ ys)) ≡ y ∷ ys)
          → taken (i ∷ is) (cond x (true ∷ flags_for is ys) (false ∷ flags_for is (y ∷ ys))) ≡ y ∷ ys
      go true q hit miss =
          let s = eqb-true i y q in
          ap₂ (λ (z : ℕ) (l : List ℕ). z ∷ l) s (hit (past_first i is ys (each_map _ _ ys (λ z h. omega (arith, s)) later) e.1))
      go false q hit miss =
          let there : Memᴰ y is = ⊎_elim (λ s. absurd (eqb-false i y q (sym s))) (λ r. r) (mathlib.Core.List.Memᴰ.cases_cons e.0) in
          let up : i < y = each_at (λ (z : ℕ). i < z) is (ascending_first i is a) y there in
          miss (past_first i is (y ∷ ys) (up, each_map _ _ ys (λ z h. omega arith) later) e)

-- ---- a list that comes first still does so by the numbers of its lines

pub leads_picked : (is : List ℕ) → Ascending is → (xs ys : List ℕ) → Each (λ (k : ℕ). k < length is) xs → Each (λ (k : ℕ). k < length is) ys
    → Leads xs ys → Leads (picked xs is) (picked ys is)
leads_picked is up [] ys a b h = tt
leads_picked is up (x ∷ xs) [] a b h = h
leads_picked is up (x ∷ xs) (y ∷ ys) a b h =
    ⊎_elim (λ l. inl (up x y l b.0)) (λ q. inr (ap (λ (k : ℕ). get_or is k 0) q.0, leads_picked is up xs ys a.1 b.1 q.1)) h

-- Sets of two lines: such a set is a pair of lines, and its cost is at most 2 ^ D exactly where the gate that reads the two is at depth D or less. So the first
-- pair of a row, which is the first set of two, is the first that the loops over pairs find, and no pair that makes the row comes before it.
use mathlib.Core.Bool.{Bool, true, false, cond, ◌&&◌, ◌||◌, and-false}
use mathlib.Core.List.{List, [], ◌∷◌}
use mathlib.Core.Path.{◌≡◌, refl, sym, ap, ap₂, ◌∙◌, subst}
use Prim.Native.Nat.{ℕ, zero, suc, ◌+◌, ◌-◌, ◌^◌, ◌≤◌, ◌<◌, max}
use native.Mathlib.Decide.{dec_lt}
use native.Mathlib.Nat.{add-zero, zero-add, pow-suc}
use native.Mathlib.Numerals.{add-one}
use native.Mathlib.Omega.{arith}
use borrow.Author.Tests.{leb-true, le-leb, eqb-true, eq-eqb}
use lib.Bits.{bit_xor, xor_zero_r, xor_self}
use lib.Dec.{leb}
use lib.ListN.{length, get_or, drop, drop_of_length-le}
use lib.Pow.{pow_mono, pow_pos}
use Rattle.circuit.proofs.Lists.{drop_at_next}
use Rattle.distance.specs.Base.{Line, none, Xor, xor, made, set_size, mask_of, cost_of, IsSet}
use Rattle.distance.specs.Distance.{can, numbers, Leads, first_set}
use Rattle.distance.proofs.Tests.{both_cases}
use Rattle.distance.proofs.Xor.{xor_twice}
use Rattle.distance.proofs.Fewest.{none_chosen}
use Rattle.distance.proofs.Search.{can-none}
use Rattle.distance.proofs.First.{first_is, first_leads}
use Rattle.builder.specs.Rule.{Row, pair_of, first_pair}

-- ---- two costs: 2 ^ a + 2 ^ b is at most 2 ^ D exactly where a and b are below D
pub both_below : (a b D : ℕ) → suc (max a b) ≤ D → 2 ^ a + 2 ^ b ≤ 2 ^ D
both_below a b zero h = absurd (omega arith)
both_below a b (suc D) h =
    let p : a ≤ D = omega arith in
    let q : b ≤ D = omega arith in
    omega (arith, pow_mono p, pow_mono q, pow-suc 2 D)

one_below : (a b D : ℕ) → 2 ^ a + 2 ^ b ≤ 2 ^ D → a < D
one_below a b D h = elim (dec_lt a D) [ yes p ↦ p | no p ↦ absurd (let q : D ≤ a = omega arith in omega (arith, pow_mono q, pow_pos b)) ]

pub below_both : (a b D : ℕ) → 2 ^ a + 2 ^ b ≤ 2 ^ D → suc (max a b) ≤ D
below_both a b D h = omega (arith, one_below a b D h, one_below b a D (omega arith))

-- ---- the first set of two, line by line

-- the first pair of line l, at i, with one of the lines xs, which are numbered from j on; or g
abbrev pub with_line : ℕ → ℕ → ℕ → Line → ℕ → List Line → Xor → Xor
with_line t b i l j xs g =
    let u = bit_xor l.mask t in
    let left = b - 2 ^ l.depth in
    let pair = pair_of (i ∷ numbers j xs (first_set 1 u left xs)) in
    cond (leb (2 ^ l.depth) b && can 1 u left xs) pair g

module _ (t b i : ℕ) (l : Line) where
  with_open : (xs : List Line) → pair_of (numbers i (l ∷ xs) (first_set 2 t b (l ∷ xs))) ≡ with_line t b i l (suc i) xs (pair_of (numbers (suc i) xs (first_set 2 t b xs)))
  with_open xs = go (leb (2 ^ l.depth) b && can 1 (bit_xor l.mask t) (b - 2 ^ l.depth) xs) (first_set 1 (bit_xor l.mask t) (b - 2 ^ l.depth) xs) (first_set 2 t b xs)
    where
      go : (x : Bool) (c d : List Bool) → pair_of (numbers i (l ∷ xs) (cond x (true ∷ c) (false ∷ d))) ≡ cond x (pair_of (i ∷ numbers (suc i) xs c)) (pair_of (numbers (suc i) xs d))
      go true c d = refl
      go false c d = refl

  with_end : (j : ℕ) (g : Xor) → with_line t b i l j [] g ≡ g
  with_end j g = ap (λ (x : Bool). cond x (xor 0 0) g) (and-false (leb (2 ^ l.depth) b))

  module _ (j : ℕ) (m : Line) (xs : List Line) (g : Xor) where
    with_hit : bit_xor l.mask m.mask ≡ t → 2 ^ l.depth + 2 ^ m.depth ≤ b → with_line t b i l j (m ∷ xs) g ≡ xor i j
    with_hit e h =
        let u = bit_xor l.mask t in
        let same : bit_xor m.mask u ≡ 0 = ap (bit_xor m.mask) (ap (bit_xor l.mask) (sym e) ∙ xor_twice l.mask m.mask) ∙ xor_self m.mask in
        rw (
          le-leb (2 ^ l.depth) b (omega arith),
          le-leb (2 ^ m.depth) (b - 2 ^ l.depth) (omega arith),
          can-none (bit_xor m.mask u) (b - 2 ^ l.depth - 2 ^ m.depth) xs,
          eq-eqb (bit_xor m.mask u) 0 same,
        )

    with_miss : (bit_xor l.mask m.mask ≡ t → 2 ^ l.depth + 2 ^ m.depth ≤ b → ⊥) → with_line t b i l j (m ∷ xs) g ≡ with_line t b i l (suc j) xs g
    with_miss f = go (leb (2 ^ l.depth) b) refl (leb (2 ^ m.depth) left && can 0 (bit_xor m.mask u) (left - 2 ^ m.depth) xs) refl
      where
        u : ℕ
        u = bit_xor l.mask t

        left : ℕ
        left = b - 2 ^ l.depth

        go : (x : Bool) → leb (2 ^ l.depth) b ≡ x → (y : Bool) → (leb (2 ^ m.depth) left && can 0 (bit_xor m.mask u) (left - 2 ^ m.depth) xs) ≡ y
            → cond (x && (y || can 1 u left xs)) (pair_of (i ∷ numbers j (m ∷ xs) (cond y (true ∷ first_set 0 (bit_xor m.mask u) (left - 2 ^ m.depth) xs) (false ∷ first_set 1 u left xs)))) g
            ≡ cond (x && can 1 u left xs) (pair_of (i ∷ numbers (suc j) xs (first_set 1 u left xs))) g
        go false p y q = refl
        go true p false q = refl
        go true p true q =
            let r = both_cases (leb (2 ^ m.depth) left) (can 0 (bit_xor m.mask u) (left - 2 ^ m.depth) xs) q in
            let z : bit_xor m.mask u ≡ 0 = eqb-true (bit_xor m.mask u) 0 (sym (can-none (bit_xor m.mask u) (left - 2 ^ m.depth) xs) ∙ r.1) in
            let e : u ≡ m.mask = sym (xor_twice m.mask u) ∙ ap (bit_xor m.mask) z ∙ xor_zero_r m.mask in
            absurd
            (f (ap (bit_xor l.mask) (sym e) ∙ xor_twice l.mask t) (omega (arith, leb-true (2 ^ l.depth) b p, leb-true (2 ^ m.depth) left r.0)))

-- ---- the loops over pairs
module _ (ls : List Line) (t D : ℕ) where
  -- the first pair of the lines xs, which are numbered from i on
  abbrev first_of : ℕ → List Line → Xor
  first_of i xs = pair_of (numbers i xs (first_set 2 t (2 ^ D) xs))

  -- the first pair of the lines from i on
  abbrev pub from_line : ℕ → Xor
  from_line i = first_of i (drop i ls)

  -- the first of line i with one of the lines xs, which are numbered from j on; or else of the lines from i + 1 on
  abbrev first_with : ℕ → ℕ → List Line → Xor
  first_with i j xs = with_line t (2 ^ D) i (get_or ls i none) j xs (from_line (i + 1))

  -- the first of line i with a line from j on; or else of the lines from i + 1 on
  abbrev pub from_pair : ℕ → ℕ → Xor
  from_pair i j = first_with i j (drop j ls)

  pub line_open : (i : ℕ) → i < length ls → from_line i ≡ from_pair i (i + 1)
  line_open i h =
      let xs = drop (i + 1) ls in
      ap (first_of i) (drop_at_next ls i none h)
      ∙ with_open t (2 ^ D) i (get_or ls i none) xs
      ∙ ap (λ (k : ℕ). with_line t (2 ^ D) i (get_or ls i none) k xs (first_of k xs)) (sym (add-one i))

  pub line_end : (i : ℕ) → length ls ≤ i → from_line i ≡ xor 0 0
  line_end i h = ap (first_of i) (drop_of_length-le ls h)

  module _ (i j : ℕ) where
    abbrev one : Line
    one = get_or ls i none

    abbrev two : Line
    two = get_or ls j none

    pub pair_hit : j < length ls → (made ls (xor i j)).mask ≡ t → (made ls (xor i j)).depth ≤ D → from_pair i j ≡ xor i j
    pair_hit h e d =
        ap (first_with i j) (drop_at_next ls j none h)
        ∙ with_hit t (2 ^ D) i one j two (drop (j + 1) ls) (from_line (i + 1)) e (both_below one.depth two.depth D d)

    pub pair_miss : j < length ls → ((made ls (xor i j)).mask ≡ t → (made ls (xor i j)).depth ≤ D → ⊥) → from_pair i j ≡ from_pair i (j + 1)
    pair_miss h f =
        ap (first_with i j) (drop_at_next ls j none h)
        ∙ with_miss t (2 ^ D) i one j two (drop (j + 1) ls) (from_line (i + 1)) (λ e c. f e (below_both one.depth two.depth D c))
        ∙ ap (λ (k : ℕ). first_with i k (drop (j + 1) ls)) (sym (add-one j))

    pub pair_end : length ls ≤ j → from_pair i j ≡ from_line (i + 1)
    pair_end h = ap (first_with i j) (drop_of_length-le ls h) ∙ with_end t (2 ^ D) i one j (from_line (i + 1))

-- ---- a set of two lines is a pair of lines

-- the set c has line j alone; the first line has number k
record One (k : ℕ) (ls : List Line) (c : List Bool) (j : ℕ) : Type 0 where
  within : j < length ls
  size : set_size ls c ≡ 1
  are : numbers k ls c ≡ (k + j) ∷ []
  mask : mask_of ls c ≡ (get_or ls j none).mask
  cost : cost_of ls c ≡ 2 ^ (get_or ls j none).depth

-- it has lines i and j
record Two (k : ℕ) (ls : List Line) (c : List Bool) (i j : ℕ) : Type 0 where
  order : i < j
  within : j < length ls
  size : set_size ls c ≡ 2
  are : numbers k ls c ≡ (k + i) ∷ (k + j) ∷ []
  mask : mask_of ls c ≡ bit_xor (get_or ls i none).mask (get_or ls j none).mask
  cost : cost_of ls c ≡ 2 ^ (get_or ls i none).depth + 2 ^ (get_or ls j none).depth

none_of : (k : ℕ) (ls : List Line) (c : List Bool) → set_size ls c ≡ 0 → (numbers k ls c ≡ []) × (cost_of ls c ≡ 0)
none_of k [] c e = (refl, refl)
none_of k (l ∷ ls) [] e = (refl, refl)
none_of k (l ∷ ls) (true ∷ c) e = absurd (omega arith)
none_of k (l ∷ ls) (false ∷ c) e = none_of (suc k) ls c e

module _ (k : ℕ) (l : Line) (ls : List Line) (c : List Bool) where
  one_on : (j : ℕ) → suc k + j ≡ k + suc j
  one_on j = omega arith

  one_here : set_size ls c ≡ 0 → One k (l ∷ ls) (true ∷ c) 0
  one_here e =
      let o = none_of (suc k) ls c e in
      record {
        within = omega arith;
        size = ap suc e;
        are = ap₂ (λ (x : ℕ) (xs : List ℕ). x ∷ xs) (sym (add-zero k)) o.0;
        mask = ap (bit_xor l.mask) (none_chosen ls c e) ∙ xor_zero_r l.mask;
        cost = omega (arith, o.1);
      }

  one_there : (j : ℕ) → One (suc k) ls c j → One k (l ∷ ls) (false ∷ c) (suc j)
  one_there j o = record { within = omega (arith, o.within); size = o.size; are = o.are ∙ ap (λ (x : ℕ). x ∷ []) (one_on j); mask = o.mask; cost = o.cost }

  two_here : (j : ℕ) → One (suc k) ls c j → Two k (l ∷ ls) (true ∷ c) 0 (suc j)
  two_here j o =
      record {
        order = omega arith;
        within = omega (arith, o.within);
        size = ap suc o.size;
        are = ap₂ (λ (x : ℕ) (xs : List ℕ). x ∷ xs) (sym (add-zero k)) (o.are ∙ ap (λ (x : ℕ). x ∷ []) (one_on j));
        mask = ap (bit_xor l.mask) o.mask;
        cost = omega (arith, o.cost);
      }

  two_there : (i j : ℕ) → Two (suc k) ls c i j → Two k (l ∷ ls) (false ∷ c) (suc i) (suc j)
  two_there i j o =
      record {
        order = omega (arith, o.order);
        within = omega (arith, o.within);
        size = o.size;
        are = o.are ∙ ap₂ (λ (x y : ℕ). x ∷ y ∷ []) (one_on i) (one_on j);
        mask = o.mask;
        cost = o.cost;
      }

-- a set of one line has a line, a set of two lines has two
one_of : (k : ℕ) (ls : List Line) (c : List Bool) → set_size ls c ≡ 1 → (j : ℕ) × One k ls c j
one_of k [] c e = absurd (omega arith)
one_of k (l ∷ ls) [] e = absurd (omega arith)
one_of k (l ∷ ls) (true ∷ c) e = (0, one_here k l ls c (omega arith))
one_of k (l ∷ ls) (false ∷ c) e = let o = one_of (suc k) ls c e in (suc o.0, one_there k l ls c o.0 o.1)

two_of : (k : ℕ) (ls : List Line) (c : List Bool) → set_size ls c ≡ 2 → (i : ℕ) × (j : ℕ) × Two k ls c i j
two_of k [] c e = absurd (omega arith)
two_of k (l ∷ ls) [] e = absurd (omega arith)
two_of k (l ∷ ls) (true ∷ c) e = let o = one_of (suc k) ls c (omega arith) in (0, suc o.0, two_here k l ls c o.0 o.1)
two_of k (l ∷ ls) (false ∷ c) e = let o = two_of (suc k) ls c e in (suc o.0, suc o.1, two_there k l ls c o.0 o.1 o.2)

-- and each line, and each two lines, are a set
of_none : (ls : List Line) → set_size ls [] ≡ 0
of_none [] = refl
of_none (l ∷ ls) = refl

of_one : (k : ℕ) (ls : List Line) (j : ℕ) → j < length ls → (c : List Bool) × One k ls c j
of_one k [] j h = absurd (omega arith)
of_one k (l ∷ ls) zero h = (true ∷ [], one_here k l ls [] (of_none ls))
of_one k (l ∷ ls) (suc j) h = let o = of_one (suc k) ls j (omega arith) in (false ∷ o.0, one_there k l ls o.0 j o.1)

of_two : (k : ℕ) (ls : List Line) (i j : ℕ) → i < j → j < length ls → (c : List Bool) × Two k ls c i j
of_two k ls i zero p h = absurd (omega arith)
of_two k [] i (suc j) p h = absurd (omega arith)
of_two k (l ∷ ls) zero (suc j) p h = let o = of_one (suc k) ls j (omega arith) in (true ∷ o.0, two_here k l ls o.0 j o.1)
of_two k (l ∷ ls) (suc i) (suc j) p h = let o = of_two (suc k) ls i j (omega arith) (omega arith) in (false ∷ o.0, two_there k l ls o.0 i j o.1)

two_numbers : (ls : List Line) (c : List Bool) (i j : ℕ) → Two 0 ls c i j → numbers 0 ls c ≡ i ∷ j ∷ []
two_numbers ls c i j o = o.are ∙ ap₂ (λ (x y : ℕ). x ∷ y ∷ []) (zero-add i) (zero-add j)

-- ---- the first pair of a row

-- a pair of lines that makes the row within its limit
pub record PairFor (ls : List Line) (r : Row) (g : Xor) : Type 0 where
  pub order : g.a < g.b
  pub within : g.b < length ls
  pub mask : (made ls g).mask ≡ r.mask
  pub depth : (made ls g).depth ≤ r.limit

module _ (ls : List Line) (r : Row) (some : can 2 r.mask (2 ^ r.limit) ls ≡ true) where
  abbrev chosen : List Bool
  chosen = first_set 2 r.mask (2 ^ r.limit) ls

  is_set : IsSet ls chosen 2 r.mask (2 ^ r.limit)
  is_set = first_is ls 2 r.mask (2 ^ r.limit) some

  lines : (i : ℕ) × (j : ℕ) × Two 0 ls chosen i j
  lines = two_of 0 ls chosen is_set.size

  lines_are : numbers 0 ls chosen ≡ lines.0 ∷ lines.1 ∷ []
  lines_are = two_numbers ls chosen lines.0 lines.1 lines.2

  pub first_numbers : numbers 0 ls chosen ≡ (first_pair ls r).a ∷ (first_pair ls r).b ∷ []
  first_numbers = lines_are ∙ ap (λ (xs : List ℕ). (pair_of xs).a ∷ (pair_of xs).b ∷ []) (sym lines_are)

  pub first_makes : PairFor ls r (first_pair ls r)
  first_makes =
      let o = lines.2 in
      subst (PairFor ls r) (ap pair_of (sym lines_are))
      (record {
        order = o.order;
        within = o.within;
        mask = sym o.mask ∙ is_set.mask;
        depth = below_both (get_or ls lines.0 none).depth (get_or ls lines.1 none).depth r.limit (omega (arith, o.cost, is_set.cost));
      })

  -- no pair that makes the row comes before it
  pub first_among : (g : Xor) → PairFor ls r g → Leads ((first_pair ls r).a ∷ (first_pair ls r).b ∷ []) (g.a ∷ g.b ∷ [])
  first_among g p =
      let w = of_two 0 ls g.a g.b p.order p.within in
      let o = w.1 in
      let s : IsSet ls w.0 2 r.mask (2 ^ r.limit) =
      record { size = o.size; mask = o.mask ∙ p.mask; cost = omega (arith, o.cost, both_below (get_or ls g.a none).depth (get_or ls g.b none).depth r.limit p.depth) } in
      subst (λ (xs : List ℕ). Leads xs (g.a ∷ g.b ∷ [])) first_numbers
      (subst (Leads (numbers 0 ls chosen)) (two_numbers ls w.0 g.a g.b o) (first_leads 0 ls w.0 2 r.mask (2 ^ r.limit) s))

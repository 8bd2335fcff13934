-- The ways of a key, of the search in the table and of a name.
use mathlib.Core.Path.{◌≡◌, refl, sym, ◌∙◌}
use mathlib.Core.Bool.{Bool, true, false, cond, ◌&&◌}
use mathlib.Core.List.{List}
use Prim.Native.Nat.{ℕ, zero, suc, ◌+◌, ◌-◌, ◌≤◌, ◌<◌}
use native.Mathlib.Omega.{arith}
use borrow.Author.Tests.{lt-ltb, le-ltb, le-leb, lt-leb, eq-eqb, ne_eqb, ltb-true, ltb-false}
use lib.Dec.{ltb, eqb}
use lib.ListN.{get_or}
use Rattle.formula.specs.Text.{seen}
use Rattle.formula.specs.Names.{appended, part_of, find_from, block, in_block, Passed, input_of, or_else, low_key, high_key, few_names, look_up, name_by}
use Rattle.formula.specs.Text.{skip_of, word_end}
use Rattle.formula.specs.Sizes.{most_names, longest}
use Rattle.formula.specs.Emit.{use_line, Read, read_at, failed, emitted}
use Rattle.formula.specs.declared.Gates.{Gates}
use Rattle.formula.specs.declared.Why.TheVariants.{Text, Name}
use Rattle.std.specs.Prelude.{Option, Some, None, Ok}

-- ---- a key

module _ (s : List ℕ) (to i v : ℕ) where
  pub part_end : to ≤ i → part_of s (to - i) i v ≡ v
  unfolding part_of
  part_end h = let k : to - i ≡ 0 = omega arith in rw k

  pub part_more : i < to → part_of s (to - i) i v ≡ part_of s (to - (i + 1)) (i + 1) (appended v (get_or s i 0))
  unfolding part_of
  part_more h = let k : to - i ≡ suc (to - (i + 1)) = omega arith in rw k

-- ---- the table

pub few-names : (n : ℕ) → few_names n ≤ most_names
unfolding few_names
few-names n = by (ltb n most_names) refl
  where
    by : (b : Bool) → ltb n most_names ≡ b → cond b n most_names ≤ most_names
    by true w = omega (arith, ltb-true n most_names w)
    by false w = omega arith

module _ (low high ls : List ℕ) (a b n i : ℕ) where
  pub find_end : n ≤ i → find_from low high ls a b (n - i) i ≡ None
  unfolding find_from
  find_end h = let k : n - i ≡ 0 = omega arith in rw k

  module _ (h : i < n) where
    pub find_hit : eqb (get_or low i 0) a && eqb (get_or high i 0) b ≡ true → find_from low high ls a b (n - i) i ≡ Some (get_or ls i 0)
    unfolding find_from
    find_hit e = let k : n - i ≡ suc (n - (i + 1)) = omega arith in rw (k, e)

    pub find_miss : eqb (get_or low i 0) a && eqb (get_or high i 0) b ≡ false → find_from low high ls a b (n - i) i ≡ find_from low high ls a b (n - (i + 1)) (i + 1)
    unfolding find_from
    find_miss e = let k : n - i ≡ suc (n - (i + 1)) = omega arith in rw (k, e)

-- a place that has not the key
module _ (low high ls : List ℕ) (a b : ℕ) where
  -- f places without the key are passed
  none_found : (f i : ℕ) → ((k : ℕ) → i ≤ k → k < i + f → eqb (get_or low k 0) a && eqb (get_or high k 0) b ≡ false) → find_from low high ls a b f i ≡ None
  unfolding find_from
  none_found zero i h = refl
  none_found (suc f) i h = rw (h i (omega arith) (omega arith)) (none_found f (i + 1) (λ k l m. h k (omega arith) (omega arith)))

  pub low_passed : (i j f : ℕ) → Passed low a i j → i + f ≤ j → find_from low high ls a b f i ≡ None
  low_passed i j f w h = none_found f i (λ k l m. rw (ne_eqb _ _ (w k l (omega arith))))

  pub high_passed : (i j f : ℕ) → Passed high b i j → i + f ≤ j → find_from low high ls a b f i ≡ None
  high_passed i j f w h = none_found f i (λ k l m. both_false (eqb (get_or low k 0) a) _ (ne_eqb _ _ (w k l (omega arith))))
    where
      both_false : (x y : Bool) → y ≡ false → x && y ≡ false
      both_false true y e = e
      both_false false y e = refl

  -- the first f places, then the rest
  find_split : (f g i : ℕ) → find_from low high ls a b (f + g) i ≡ or_else (find_from low high ls a b f i) (find_from low high ls a b g (i + f))
  unfolding find_from
  find_split zero g i = let y : 0 + g ≡ g = omega arith in let z : i + 0 ≡ i = omega arith in rw (y, z)
  find_split (suc f) g i = let s : suc f + g ≡ suc (f + g) = omega arith in rw s (by (eqb (get_or low i 0) a && eqb (get_or high i 0) b) (find_split f g (i + 1)))
    where
      by : (t : Bool) → find_from low high ls a b (f + g) (i + 1) ≡ or_else (find_from low high ls a b f (i + 1)) (find_from low high ls a b g (i + 1 + f))
          → cond t (Some (get_or ls i 0)) (find_from low high ls a b (f + g) (i + 1)) ≡ or_else (cond t (Some (get_or ls i 0)) (find_from low high ls a b f (i + 1))) (find_from low high ls a b g (i + suc f))
      by true h = refl
      by false h = let z : i + 1 + f ≡ i + suc f = omega arith in h ∙ rw z

pub few_in_block : (f : ℕ) → in_block f ≤ block
unfolding in_block
few_in_block f = by (ltb f block) refl
  where
    by : (t : Bool) → ltb f block ≡ t → cond t f block ≤ block
    by true e = omega (arith, ltb-true f block e)
    by false e = omega arith

module _ (low high ls : List ℕ) (a b n i : ℕ) where
  -- the block of places from i on, of n, then the rest
  find_block : find_from low high ls a b (n - i) i ≡ or_else (find_from low high ls a b (in_block (n - i)) i) (find_from low high ls a b (n - (i + block)) (i + block))
  unfolding find_from in_block
  find_block = by (ltb (n - i) block) refl
    where
      alone : (f : Option ℕ) → f ≡ or_else f None
      alone (Some v) = refl
      alone None = refl

      by : (t : Bool) → ltb (n - i) block ≡ t
          → find_from low high ls a b (n - i) i ≡ or_else (find_from low high ls a b (cond t (n - i) block) i) (find_from low high ls a b (n - (i + block)) (i + block))
      by true e = let z : n - (i + block) ≡ 0 = omega (arith, ltb-true (n - i) block e) in rw z (alone (find_from low high ls a b (n - i) i))
      by false e = let z : n - i ≡ block + (n - (i + block)) = omega (arith, ltb-false (n - i) block e) in rw z (find_split low high ls a b block (n - (i + block)) i)

  pub block_hit : (f : Option ℕ) (v : ℕ) → f ≡ find_from low high ls a b (in_block (n - i)) i → f ≡ Some v → find_from low high ls a b (n - i) i ≡ f
  block_hit f v e k = find_block ∙ rw (← e, k)

  pub block_miss : (f : Option ℕ) (j : ℕ) → f ≡ find_from low high ls a b (in_block (n - i)) i → f ≡ None → j ≡ i + block → find_from low high ls a b (n - i) i ≡ find_from low high ls a b (n - j) j
  block_miss f j e k z = find_block ∙ rw (← e, k, z)

-- ---- an input

module _ (s : List ℕ) (p e k : ℕ) (size : k ≡ e - p) where
  pub input_size : (k ≡ 2 → ⊥) → None ≡ input_of s p e
  unfolding input_of
  input_size h = rw (← size, ne_eqb _ _ h)

  module _ (h : k ≡ 2) where
    pub input_letter : seen s p 120 ≡ false → None ≡ input_of s p e
    unfolding input_of
    input_letter b = rw (← size, eq-eqb _ _ h, b)

    module _ (b : seen s p 120 ≡ true) (d : ℕ) (at : d ≡ get_or s (p + 1) 0) where
      pub input_below : d < 48 → None ≡ input_of s p e
      unfolding input_of
      input_below w = rw (← size, eq-eqb _ _ h, b, ← at, lt-leb _ _ w)

      pub input_above : 48 ≤ d → 55 < d → None ≡ input_of s p e
      unfolding input_of
      input_above l w = rw (← size, eq-eqb _ _ h, b, ← at, le-leb _ _ l, lt-leb _ _ w)

      pub input_is : 48 ≤ d → d ≤ 55 → Some (d - 48) ≡ input_of s p e
      unfolding input_of
      input_is l w = rw (← size, eq-eqb _ _ h, b, ← at, le-leb _ _ l, le-leb _ _ w)

module _ (s low high ls : List ℕ) (n p e : ℕ) where
  pub look_input : (v : ℕ) (f : Option ℕ) → f ≡ input_of s p e → f ≡ Some v → Some v ≡ look_up s low high ls n p e
  unfolding look_up
  look_input v f h k = rw (sym h ∙ k)

  pub look_table : (f r : Option ℕ) (a b : ℕ) → f ≡ input_of s p e → f ≡ None → a ≡ low_key s p e → b ≡ high_key s p e → r ≡ find_from low high ls a b (few_names n) 0 → r ≡ look_up s low high ls n p e
  unfolding look_up
  look_table f r a b h k ea eb q = q ∙ rw (sym h ∙ k, ea, eb)

module _ (s : List ℕ) (known : ℕ → ℕ → Option ℕ) (p e : ℕ) (g : Gates) (at : e ≡ word_end s p) where
  pub name_none : (r : Read) → e ≤ p → r ≡ failed (Text p) → r ≡ emitted g (name_by s known p)
  unfolding name_by
  name_none r h k = k ∙ rw (← at, le-leb _ _ h)

  pub name_long : (r : Read) → p < e → longest < e - p → r ≡ failed (Text (p + longest)) → r ≡ emitted g (name_by s known p)
  unfolding name_by
  name_long r h l k = k ∙ rw (← at, lt-leb _ _ h, lt-ltb _ _ l)

  pub name_found : (f : Option ℕ) (v z : ℕ) (h : Gates) → p < e → e - p ≤ longest → f ≡ known p e → f ≡ Some v → h ≡ use_line g v → z ≡ skip_of s e
      → read_at h (Ok (z, v)) ≡ emitted g (name_by s known p)
  unfolding name_by
  name_found f v z h a b q w eh ez = rw (← at, lt-leb _ _ a, le-ltb _ _ b, sym q ∙ w, eh, ez)

  pub name_unknown : (f : Option ℕ) (r : Read) → p < e → e - p ≤ longest → f ≡ known p e → f ≡ None → r ≡ failed (Name (e - 1)) → r ≡ emitted g (name_by s known p)
  unfolding name_by
  name_unknown f r a b q w k = k ∙ rw (← at, lt-leb _ _ a, le-ltb _ _ b, sym q ∙ w)

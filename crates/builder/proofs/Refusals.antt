-- Laws of the look at a call: tests of every entry, the weight of a row, and what an accepted call is.
use Rattle.std.specs.Prelude.{Err}
use Rattle.circuit.specs.Rules.{done}
use mathlib.Core.Bool.{Bool, true, false, not, ◌||◌}
use mathlib.Core.List.{List, [], ◌∷◌, map}
use mathlib.Core.Path.{◌≡◌, refl, sym, ap, ◌∙◌}
use Prim.Native.Nat.{ℕ, zero, suc, ◌+◌, ◌-◌, ◌^◌, ◌≤◌, ◌<◌}
use native.Mathlib.Decide.{dec_lt}
use native.Mathlib.Nat.{pow-suc}
use native.Mathlib.Numerals.{add-one}
use native.Mathlib.Omega.{arith}
use borrow.Author.Tests.{eq-eqb, ne_eqb, eqb-true, leb-false, ltb-false, not-true}
use lib.Dec.{leb, ltb, eqb}
use lib.ListN.{length, get_or, drop, drop_of_length-le}
use lib.Pow.{pow_pos}
use Rattle.std.specs.List.{list_any}
use Rattle.circuit.specs.declared.Refusal.TheVariants.{Shape, Length, Target, TooDeep, TooShallow}
use Rattle.circuit.specs.Lines.{any_of}
use Rattle.circuit.specs.Rules.{shaped, unless}
use Rattle.circuit.proofs.Shapes.{past, shape_is}
use Rattle.circuit.proofs.Lists.{drop_at_next}
use Rattle.distance.specs.Base.{Shallow}
use Rattle.distance.proofs.Tests.{both_cases}
use Rattle.builder.specs.Rule.{rows_of}
use Rattle.builder.specs.Call.{bad_row}
use Rattle.builder.specs.Late.{lists_fit, any_deep, too_late, late_refusal}
use Rattle.builder.specs.Kept.{Looking}

-- ---- whether a test holds of some entry: as the library has it,
pub any_is : {A : Type 0} (f : A → Bool) (xs : List A) → any_of (map f xs) ≡ list_any f xs
any_is f [] = refl
any_is f (x ∷ xs) = ap (λ (b : Bool). f x || b) (any_is f xs)

-- and from a place on
module _ {A : Type 0} (f : A → Bool) (xs : List A) (d : A) (i : ℕ) where
  any_next : i < length xs → any_of (map f (drop i xs)) ≡ (f (get_or xs i d) || any_of (map f (drop (i + 1) xs)))
  any_next h = ap (λ (l : List A). any_of (map f l)) (drop_at_next xs i d h)

  pub any_hit : i < length xs → f (get_or xs i d) ≡ true → any_of (map f (drop i xs)) ≡ true
  any_hit h e = any_next h ∙ ap (λ (x : Bool). x || any_of (map f (drop (i + 1) xs))) e

  pub any_miss : i < length xs → f (get_or xs i d) ≡ false → any_of (map f (drop i xs)) ≡ any_of (map f (drop (i + 1) xs))
  any_miss h e = any_next h ∙ ap (λ (x : Bool). x || any_of (map f (drop (i + 1) xs))) e

  pub any_end : length xs ≤ i → any_of (map f (drop i xs)) ≡ false
  any_end h = ap (λ (l : List A). any_of (map f l)) (drop_of_length-le xs h)

-- it holds of none
pub any_none : {A : Type 0} (f : A → Bool) (xs : List A) (d : A) → any_of (map f xs) ≡ false → (i : ℕ) → i < length xs → f (get_or xs i d) ≡ false
any_none f [] d e i h = absurd (omega arith)
any_none f (x ∷ xs) d e zero h = go (f x) e
  where
    go : (y : Bool) → (y || any_of (map f xs)) ≡ false → y ≡ false
    go true e = e
    go false e = refl
any_none f (x ∷ xs) d e (suc i) h = any_none f xs d (go (f x) e) i (omega arith)
  where
    go : (y : Bool) → (y || any_of (map f xs)) ≡ false → any_of (map f xs) ≡ false
    go true e = let z : ◌≡◌ {A = ℕ} 0 1 = cc in absurd (omega arith)
    go false e = e

-- it holds of some
pub record Somewhere {A : Type 0} (f : A → Bool) (xs : List A) (d : A) : Type 0 where
  pub at : ℕ
  pub within : at < length xs
  pub holds : f (get_or xs at d) ≡ true

pub any_some : {A : Type 0} (f : A → Bool) (xs : List A) (d : A) → any_of (map f xs) ≡ true → Somewhere f xs d
any_some f [] d e = let z : ◌≡◌ {A = ℕ} 0 1 = cc in absurd (omega arith)
any_some f (x ∷ xs) d e = go (f x) refl e (λ k. any_some f xs d k)
  where
    go : (y : Bool) → f x ≡ y → (y || any_of (map f xs)) ≡ true → (any_of (map f xs) ≡ true → Somewhere f xs d) → Somewhere f (x ∷ xs) d
    go true p e r = record { at = 0; within = omega arith; holds = p }
    go false p e r = let s = r e in record { at = suc s.at; within = omega (arith, s.within); holds = s.holds }

-- where no depth is over 15, each is below 16, and 0 past the last
pub none_deep : (ds : List ℕ) → any_deep ds ≡ false → Shallow ds
none_deep ds e i = elim (dec_lt i (length ds)) [
  | yes h ↦ omega (arith, ltb-false 15 (get_or ds i 0) (any_none (ltb 15) ds 0 e i h))
  | no h ↦ omega (arith, past_end ds i (omega arith))
]
  where
    past_end : (l : List ℕ) (i : ℕ) → length l ≤ i → get_or l i 0 ≡ 0
    past_end [] i h = refl
    past_end (x ∷ l) zero h = absurd (omega arith)
    past_end (x ∷ l) (suc i) h = past_end l i (omega arith)

-- ---- one row
module _ (n t : ℕ) where
  pub bad_none : t ≡ 0 → bad_row n t ≡ true
  bad_none e = rw (eq-eqb t 0 e)

  pub good_some : bad_row n t ≡ false → t ≡ 0 → ⊥
  good_some e z = let q = sym (bad_none z) ∙ e in let w : ◌≡◌ {A = ℕ} 0 1 = cc in omega arith

  pub good_below : bad_row n t ≡ false → t < 2 ^ n
  good_below e = go (leb (2 ^ n) t) refl
    where
      either_r : (x : Bool) → (x || true) ≡ true
      either_r true = refl
      either_r false = refl

      go : (x : Bool) → leb (2 ^ n) t ≡ x → t < 2 ^ n
      go true p =
          let q : bad_row n t ≡ true = ap (λ (x : Bool). eqb t 0 || x) p ∙ either_r (eqb t 0) in
          let r = sym q ∙ e in
          let w : ◌≡◌ {A = ℕ} 0 1 = cc in
          absurd (omega arith)
      go false p = leb-false (2 ^ n) t p

-- what is left below the top digit
pub rest_small : (k t : ℕ) → t < 2 ^ (k + 1) → 2 ^ k ≤ t → t - 2 ^ k < 2 ^ k
rest_small k t q p = omega (arith, ap (λ (x : ℕ). 2 ^ x) (add-one k), pow-suc 2 k)

pub below_all : (n : ℕ) (ts : List ℕ) → ((i : ℕ) → i < length ts → get_or ts i 0 < 2 ^ n) → (i : ℕ) → get_or ts i 0 < 2 ^ n
below_all n [] f i = pow_pos n
below_all n (t ∷ ts) f zero = f 0 (omega arith)
below_all n (t ∷ ts) f (suc i) = below_all n ts (λ j h. f (suc j) (omega arith)) i

-- ---- the chain of tests
module _ (n : ℕ) (ar ts ds : List ℕ) where
  pub refused_shape : shaped n (length ts) 0 ≡ false → Err Shape ≡ late_refusal n ar ts ds
  unfolding late_refusal
  refused_shape a = rw a

  module _ (a : shaped n (length ts) 0 ≡ true) where
    pub refused_arrivals : (length ar ≡ n → ⊥) → Err Length ≡ late_refusal n ar ts ds
    unfolding late_refusal
    refused_arrivals b = rw (a, ne_eqb (length ar) n b)

    module _ (b : length ar ≡ n) where
      pub refused-limits : (length ds ≡ length ts → ⊥) → Err Length ≡ late_refusal n ar ts ds
      unfolding late_refusal
      refused-limits c = rw (a, eq-eqb (length ar) n b, ne_eqb (length ds) (length ts) c)

      module _ (c : length ds ≡ length ts) where
        pub refused-row : any_of (map (bad_row n) ts) ≡ true → Err Target ≡ late_refusal n ar ts ds
        unfolding late_refusal
        refused-row d = rw (a, eq-eqb (length ar) n b, eq-eqb (length ds) (length ts) c, d)

        module _ (d : any_of (map (bad_row n) ts) ≡ false) where
          pub refused_early : any_deep ar ≡ true → Err TooDeep ≡ late_refusal n ar ts ds
          unfolding late_refusal
          refused_early e = rw (a, eq-eqb (length ar) n b, eq-eqb (length ds) (length ts) c, d, e)

          module _ (e : any_deep ar ≡ false) where
            pub refused_deep : any_deep ds ≡ true → Err TooDeep ≡ late_refusal n ar ts ds
            unfolding late_refusal
            refused_deep f = rw (a, eq-eqb (length ar) n b, eq-eqb (length ds) (length ts) c, d, e, f)

-- a call that no refusal ahead of 10 stops
pub record Ahead (n : ℕ) (ar ts ds : List ℕ) : Type 0 where
  pub shape : shaped n (length ts) 0 ≡ true
  pub arrivals : length ar ≡ n
  pub limits : length ds ≡ length ts
  pub rows : any_of (map (bad_row n) ts) ≡ false
  pub early : any_deep ar ≡ false
  pub shallow : any_deep ds ≡ false

module _ (n : ℕ) (ar ts ds : List ℕ) (p : Ahead n ar ts ds) where
  -- whether it is too shallow is asked last
  pub refused_last : (x : Bool) → any_of (map (too_late n ar) (rows_of ts ds)) ≡ x → late_refusal n ar ts ds ≡ unless (not x) TooShallow done
  unfolding late_refusal
  refused_last x e = rw (p.shape, eq-eqb (length ar) n p.arrivals, eq-eqb (length ds) (length ts) p.limits, p.rows, p.early, p.shallow, e)

  pub looking : Looking n ar ts ds
  looking =
      let r = shape_is n (length ts) 0 p.shape in
      let row : (i : ℕ) → i < length ts → bad_row n (get_or ts i 0) ≡ false = λ i h. any_none (bad_row n) ts 0 p.rows i h in
      record {
        fit =
            record {
              inputs = r.n_most;
              few = r.m_most;
              arrivals = p.arrivals;
              early = none_deep ar p.early;
              some = λ i h. good_some n (get_or ts i 0) (row i h);
              below = below_all n ts (λ i h. good_below n (get_or ts i 0) (row i h));
            };
        limits = sym p.limits;
        shallow = none_deep ds p.shallow;
      }

-- a call that nothing refuses
pub record Accepted (n : ℕ) (ar ts ds : List ℕ) : Type 0 where
  pub ahead : Ahead n ar ts ds
  pub light : any_of (map (too_late n ar) (rows_of ts ds)) ≡ false

pub accepted : (n : ℕ) (ar ts ds : List ℕ) → late_refusal n ar ts ds ≡ done → Accepted n ar ts ds
unfolding late_refusal
accepted n ar ts ds e =
    let a = past (shaped n (length ts) 0) Shape e in
    let b = past (lists_fit n ar ts ds) Length a.1 in
    let l = both_cases (eqb (length ar) n) (eqb (length ds) (length ts)) b.0 in
    let c = past (not (any_of (map (bad_row n) ts))) Target b.1 in
    let d = past (not (any_deep ar || any_deep ds)) TooDeep c.1 in
    let o = neither (any_deep ar) (any_deep ds) (not-true (any_deep ar || any_deep ds) d.0) in
    let f = past (not (any_of (map (too_late n ar) (rows_of ts ds)))) TooShallow d.1 in
    record {
      ahead =
          record {
            shape = a.0;
            arrivals = eqb-true (length ar) n l.0;
            limits = eqb-true (length ds) (length ts) l.1;
            rows = not-true (any_of (map (bad_row n) ts)) c.0;
            early = o.0;
            shallow = o.1;
          };
      light = not-true (any_of (map (too_late n ar) (rows_of ts ds))) f.0;
    }
  where
    neither : (x y : Bool) → (x || y) ≡ false → (x ≡ false) × (y ≡ false)
    neither true y e = let z : ◌≡◌ {A = ℕ} 0 1 = cc in absurd (omega arith)
    neither false y e = (refl, e)

-- What is proved of a hint: the statements, and their proofs from the laws. Assumes nothing.
use Rattle.std.specs.Prelude.{Option, Some, None, Result, Ok, Err}
use Rattle.circuit.specs.Rules.{done}
use mathlib.Core.Path.{◌≡◌, refl, ap, ap₂, ◌∙◌, sym, subst}
use mathlib.Core.Bool.{Bool, true, cond}
use mathlib.Core.List.{List, [], ◌∷◌, map, Memᴰ}
use Prim.Native.Nat.{ℕ, suc, ◌+◌, ◌-◌, ◌^◌, ◌≤◌, ◌<◌}
use native.Mathlib.Omega.{arith}
use borrow.Author.Tests.{lt-ltb, le-ltb}
use lib.Bits.{bit_and, differ}
use lib.ListN.{length, get_or, take, replicate, length-map}
use lib.Seq.{take_at}
use Rattle.circuit.specs.declared.Refusal.{Refusal}
use Rattle.circuit.specs.declared.Refusal.TheVariants.{Target as BadTarget, TooDeep, NotThere}
use Rattle.circuit.specs.Gate.{row_value_on}
use Rattle.circuit.specs.Lines.{Listing, gate_at, values}
use Rattle.circuit.specs.Rows.{Row, no_row, on_row, sum_of, masks_of}
use Rattle.circuit.specs.Rules.{refusal_no, listing_answer}
use Rattle.circuit.specs.Sizes.{mask_width}
use Rattle.circuit.proofs.GateLaws.{differ-none, differ_self}
use Rattle.circuit.proofs.ParityLaws.{parity-lt, differ_swap}
use Rattle.circuit.proofs.RowLaws.{sum_small, values_small, sum_linear, matrix_linear}
use Rattle.distance.specs.declared.Found.{Found}
use Rattle.distance.specs.declared.Refusal.{Refusal as QueryRefusal}
use Rattle.distance.specs.declared.Refusal.TheVariants.{Inputs, Lists, Mask, Depth}
use Rattle.distance.specs.declared.FoundNumbers.{FoundNumbers}
use Rattle.distance.specs.Base.{Line, line, Program, SetOf}
use Rattle.distance.specs.Distance.{Gap, gates, never, distance, numbers, first_set, gap_lines, Leads}
use Rattle.distance.specs.Query.{query_refusal_no, distance_code, look_at, answered, where_sound, answer_of, lines_where, lines_of, in_eight}
use Rattle.distance.proofs.Among.{numbers_below}
use Rattle.distance.proofs.Each.{Each, each_of}
use Rattle.distance.proofs.Fewest.{distance_smallest, distance_no-set}
use Rattle.distance.proofs.First.{first_smallest, first_of_sets}
use Rattle.distance.proofs.Making.{whole-makes}
use Rattle.distance.proofs.Refuse.{fit}
use Rattle.distance.proofs.Taking.{taken, taken_each}
use Rattle.targets.specs.Target.{Target, matrix, table, is_matrix, wants}
use Rattle.bench.specs.declared.Bench.{Bench}
use Rattle.bench.specs.State.{State, Present, nothing, present, Sound}
use Rattle.bench.specs.Held.{Stands}
use Rattle.bench.proofs.Places.{Ascending}
use Rattle.hint.specs.Hint.{depths_of, shallow, picked, lines_from, hint_refusal, hint_answer, Hinted, hinted, hint_for, hint_under, hint_of, HintPromise, hint_code, hint_no, hint_numbers, HintCode, Answer}
use Rattle.hint.proofs.Choosing.{lines_many, spent_on, shallow_ascends, shallow_in, shallow-has, taken_ascends, base_for, base-length, whole_mask, whole_cost, set-size, set_mask, set_cost, set-numbers, flags_for, taken_flags, leads_picked}
use Rattle.hint.proofs.Refusing as refusing

-- ---- the statements

-- lines of a circuit by their numbers, ascending and each at most 15 deep, whose masks sum to t and whose sum of 2 ^ depth is at most 2 ^ D
pub record Reaches (c : Listing) (t D : ℕ) (xs : List ℕ) : Type 0 where
  pub ascending : Ascending xs
  pub there : Each (λ (i : ℕ). i < c.inputs + length c.gates) xs
  pub flat : Each (λ (i : ℕ). get_or (depths_of c) i 0 ≤ 15) xs
  pub sum : sum_of (picked xs (masks_of c)) ≡ t
  pub cost : spent_on (picked xs (depths_of c)) ≤ 2 ^ D

-- g + 1 such lines, where no fewer are such, and of those that are as few these come first
pub record HintRight (c : Listing) (t D g : ℕ) (xs : List ℕ) : Type 0 where
  pub count : length xs ≡ suc g
  pub reaches : Reaches c t D xs
  pub least : (ys : List ℕ) → Reaches c t D ys → suc g ≤ length ys
  pub first : (ys : List ℕ) → Reaches c t D ys → length ys ≡ suc g → Leads xs ys

-- the lines of a hint
abbrev pub told : Found → List ℕ
told f = take f.count f.lines

-- line i of a circuit: what it sums, and its depth
abbrev pub line_at : Listing → ℕ → Line
line_at c i = line (get_or (masks_of c) i 0) (get_or (depths_of c) i 0)

-- what the values of some lines sum to on input value x
abbrev pub summed : Listing → List ℕ → ℕ → ℕ
summed c xs x = sum_of (picked xs (values x c.inputs (gate_at c) (length c.gates)))

-- the constant by which that differs from a row, on every input value: their sum on 0, and the row's own constant
abbrev pub offset : Listing → Row → List ℕ → ℕ
offset c r xs = differ (summed c xs 0) r.constant

-- ---- what the masks are

-- The values of some lines of a circuit that may stand under a matrix sum to what their masks sum to, plus their sum on 0.
pub sum_compute : (c : Listing) → listing_answer true c ≡ done
    → (x : ℕ) (is : List ℕ) → summed c is x ≡ differ (row_value_on mask_width (sum_of (picked is (masks_of c))) x) (summed c is 0)
unfolding on_row
sum_compute c ok x is =
    let g = length c.gates in
    sum_linear mask_width x (λ (i : ℕ). get_or (values x c.inputs (gate_at c) g) i 0) (λ (i : ℕ). get_or (masks_of c) i 0)
    (λ (i : ℕ). get_or (values 0 c.inputs (gate_at c) g) i 0) (values_small 0 c.inputs (gate_at c) g) (matrix_linear c ok x) is

-- ---- what an answer shows

-- of a hint that answers a distance
some_asked : (l : Result (Unit {0}) QueryRefusal) (x : Gap) (xs : List ℕ) (f : Found) → hinted (hint_answer (where_sound l (answered x))) xs ≡ Ok (Some f)
    → (l ≡ Ok tt) × (x ≡ gates f.gates) × (told f ≡ xs)
some_asked (Ok u) (gates g) xs f e =
    let k : ◌≡◌ {A = Found} (record { gates = g; lines = in_eight xs; count = length xs }) f = cc in
    (refl, ap (λ (y : Found). gates y.gates) k, sym (ap told k) ∙ take_at xs (replicate (8 - length xs) 0) (length xs) refl)
some_asked (Ok u) never xs f e = absurd (cc)
some_asked (Err why) x xs f e = absurd (cc)

-- of one that answers that there is none
none_asked : (l : Result (Unit {0}) QueryRefusal) (x : Gap) (xs : List ℕ) → hinted (hint_answer (where_sound l (answered x))) xs ≡ Ok None → (l ≡ Ok tt) × (x ≡ never)
none_asked (Ok u) (gates h) xs e = absurd (cc)
none_asked (Ok u) never xs e = (refl, refl)
none_asked (Err why) x xs e = absurd (cc)

module _ (c : Listing) (t D : ℕ) where
  -- the lines that a hint counts from
  abbrev is : List ℕ
  is = shallow (depths_of c)

  abbrev mask : ℕ → ℕ
  mask i = get_or (masks_of c) i 0

  abbrev deep : ℕ → ℕ
  deep i = get_or (depths_of c) i 0

  abbrev base : List Line
  base = base_for mask deep is

  abbrev look : Result (Unit {0}) QueryRefusal
  look = look_at c.inputs (picked is (masks_of c)) (picked is (depths_of c)) t D

  abbrev gap : Gap
  gap = distance c.inputs base t D

  -- the lines beside an answer
  abbrev told_lines : List ℕ
  told_lines = lines_from c.inputs is (masks_of c) (depths_of c) t D

  -- lines that reach t are a set of the base
  flags_take : (ys : List ℕ) → Reaches c t D ys → taken is (flags_for is ys) ≡ ys
  flags_take ys r = taken_flags is ys (shallow_ascends (depths_of c)) r.ascending (member ys r.there r.flat) where
    member : (ys : List ℕ) → Each (λ (i : ℕ). i < c.inputs + length c.gates) ys → Each (λ (i : ℕ). deep i ≤ 15) ys → Each (λ (y : ℕ). Memᴰ y is) ys
    member [] a b = tt
    member (y ∷ ys) a b = (shallow-has (depths_of c) y (omega (arith, a.0, lines_many c)) b.0, member ys a.1 b.1)

  reach-set : (ys : List ℕ) (k : ℕ) → length ys ≡ k → Reaches c t D ys → SetOf base k t (2 ^ D)
  reach-set ys k e r =
      let f = flags_for is ys in
      let q = flags_take ys r in
      record {
        chosen = f;
        size = set-size mask deep is f ∙ ap length q ∙ e;
        mask = set_mask mask deep is f ∙ ap (λ (l : List ℕ). sum_of (map mask l)) q ∙ r.sum;
        cost = omega (arith, set_cost mask deep is f, ap (λ (l : List ℕ). spent_on (map deep l)) q, r.cost);
      }

  -- the first of the smallest sets
  module _ (g : ℕ) (asked : look ≡ Ok tt) (found : gap ≡ gates g) where
    abbrev chosen : List Bool
    chosen = first_set (suc g) t (2 ^ D) base

    taken_reaches : Reaches c t D (taken is chosen)
    taken_reaches =
        let s = first_smallest c.inputs base t D g found in
        record {
          ascending = taken_ascends is chosen (shallow_ascends (depths_of c));
          there = taken_each _ is chosen (each_of _ is (λ k m. omega (arith, (shallow_in (depths_of c) k m).0, lines_many c)));
          flat = taken_each _ is chosen (each_of _ is (λ k m. (shallow_in (depths_of c) k m).1));
          sum = sym (set_mask mask deep is chosen) ∙ s.mask;
          cost = omega (arith, set_cost mask deep is chosen, s.cost);
        }

    taken_leads : (ys : List ℕ) → Reaches c t D ys → length ys ≡ suc g → Leads (taken is chosen) ys
    unfolding reach-set
    taken_leads ys r e =
        let f = flags_for is ys in
        let below : (h : List Bool) → Each (λ (k : ℕ). k < length is) (numbers 0 base h) = λ h.
        subst (λ (n : ℕ). Each (λ (k : ℕ). k < n) (numbers 0 base h)) (base-length mask deep is) (numbers_below base h) in
        let l = leads_picked is (shallow_ascends (depths_of c)) (numbers 0 base chosen) (numbers 0 base f) (below chosen) (below f)
        (first_of_sets base (suc g) t (2 ^ D) (reach-set ys (suc g) e r)) in
        subst (λ (ys : List ℕ). Leads (taken is chosen) ys) (set-numbers mask deep is f ∙ flags_take ys r)
        (subst (λ (xs : List ℕ). Leads xs (picked (numbers 0 base f) is)) (set-numbers mask deep is chosen) l)

    taken_right : HintRight c t D g (taken is chosen)
    taken_right =
        let w = fit c.inputs (picked is (masks_of c)) (picked is (depths_of c)) t D asked in
        record {
          count = sym (set-size mask deep is chosen) ∙ (first_smallest c.inputs base t D g found).size;
          reaches = taken_reaches;
          least = λ ys r. (distance_smallest c.inputs base t D g w.small w.some found).least (length ys) (reach-set ys (length ys) refl r);
          first = taken_leads;
        }

    -- they are the lines of the answer
    told_is : told_lines ≡ taken is chosen
    unfolding lines_of
    told_is =
        ap₂ (λ (l : Result (Unit {0}) QueryRefusal) (x : Gap). picked (lines_where l (gap_lines x t D base)) is) asked found ∙ set-numbers mask deep is chosen

  -- A hint that answers g gates tells the first of the smallest sets of lines that reach the row: g + 1 of them;
  pub hint_right : (f : Found) → hint_for c t D ≡ Ok (Some f) → HintRight c t D f.gates (told f)
  unfolding hint_for answer_of
  hint_right f e =
      let p = some_asked look gap told_lines f e in
      subst (HintRight c t D f.gates) (sym (p.2 ∙ told_is f.gates p.0 p.1)) (taken_right f.gates p.0 p.1)

  -- one that answers that there is none is right: no lines reach it.
  pub hint_never : hint_for c t D ≡ Ok None → (ys : List ℕ) → Reaches c t D ys → ⊥
  unfolding hint_for answer_of
  hint_never e ys r =
      let p = none_asked look gap told_lines e in
      let w = fit c.inputs (picked is (masks_of c)) (picked is (depths_of c)) t D p.0 in
      distance_no-set c.inputs base t D w.small w.some p.1 (length ys) (reach-set ys (length ys) refl r)

-- Lines that reach t have a program that makes it within the depth: one gate less than there are lines.
pub reached-makes : (c : Listing) (t D g : ℕ) (xs : List ℕ) → length xs ≡ suc g → Reaches c t D xs → Program (map (line_at c) xs) g t D
reached-makes c t D g xs e r =
    let m : ℕ → ℕ = λ i. get_or (masks_of c) i 0 in
    let d : ℕ → ℕ = λ i. get_or (depths_of c) i 0 in
    whole-makes (map (line_at c) xs) g t D (length-map xs (line_at c) ∙ e) (whole_mask m d xs ∙ r.sum) (omega (arith, whole_cost m d xs, r.cost))

-- The values of lines that reach row j sum to what the matrix wants of output j, plus a constant that is the same on every input value.
pub reached_computes : (c : Listing) (rows : List Row) (j D : ℕ) (xs : List ℕ) → listing_answer true c ≡ done → (get_or rows j no_row).constant < 2
    → Reaches c (get_or rows j no_row).mask D xs → (x : ℕ) → summed c xs x ≡ differ (wants (matrix rows) x j) (offset c (get_or rows j no_row) xs)
unfolding on_row
reached_computes c rows j D xs ok bit r x =
    let row = get_or rows j no_row in
    let on = row_value_on mask_width row.mask x in
    let z = summed c xs 0 in
    let z-lt = sum_small 1 _ (values_small 0 c.inputs (gate_at c) (length c.gates)) xs in
    sum_compute c ok x xs ∙ ap (λ (m : ℕ). differ (row_value_on mask_width m x) z) r.sum ∙ sym (differ-none (differ on z))
    ∙ ap (differ (differ on z)) (sym (differ_self row.constant))
    ∙ differ_swap on z row.constant row.constant (parity-lt mask_width (bit_and row.mask x)) z-lt bit bit

-- In a state that keeps every rule the hint of a row of its matrix is refused only for a mask that is 0 (8),
module _ (s : State) (ok : Sound s) (rows : List Row) (is-matrix : s.target ≡ matrix rows) (j D : ℕ) (there : j < length rows) where
  pub hint_row_zero : (get_or rows j no_row).mask ≡ 0 → hint_for s.circuit (get_or rows j no_row).mask D ≡ Err BadTarget
  hint_row_zero = refusing.row_zero s ok rows is-matrix j D there

  -- and else for its depth (9), exactly where that is above 15.
  pub hint_too_deep : ((get_or rows j no_row).mask ≡ 0 → ⊥) → 15 < D → hint_for s.circuit (get_or rows j no_row).mask D ≡ Err TooDeep
  hint_too_deep = refusing.too_deep s ok rows is-matrix j D there

  pub hint_not_refused : ((get_or rows j no_row).mask ≡ 0 → ⊥) → D ≤ 15
      → (why : Refusal) → hint_for s.circuit (get_or rows j no_row).mask D ≡ Err why → ⊥
  hint_not_refused = refusing.not-refused s ok rows is-matrix j D there

-- ---- on a bench

module _ (b : Bench) (j D : ℕ) where
  -- What meets the promise on a bench that stands for a matrix with row j is that row's hint,
  pub hint_is : (s : State) (rows : List Row) → Stands b (present s) → s.target ≡ matrix rows → j < length rows
      → (r : Hinted) → HintPromise b j D r → r ≡ hint_for s.circuit (get_or rows j no_row).mask D
  hint_is s rows k e h r m =
      m (present s) k ∙ ap (λ (t : Target). hint_under s.circuit t j D) e
      ∙ ap (λ (x : Bool). cond x (hint_for s.circuit (get_or rows j no_row).mask D) (Err NotThere)) (lt-ltb j (length rows) h)

  -- so its lines, where it answers g gates, are the first of the fewest that reach the row, and sum on every input value to what the
  -- matrix wants of output j, but for a constant;
  pub hint_makes : (s : State) (rows : List Row) → Stands b (present s) → s.target ≡ matrix rows → j < length rows
      → (r : Hinted) → HintPromise b j D r → (f : Found) → r ≡ Ok (Some f)
      → HintRight s.circuit (get_or rows j no_row).mask D f.gates (told f)
      × ((x : ℕ) → summed s.circuit (told f) x ≡ differ (wants (matrix rows) x j) (offset s.circuit (get_or rows j no_row) (told f)))
  hint_makes s rows k e h r m f a =
      let c = s.circuit in
      let right = hint_right c (get_or rows j no_row).mask D f (sym (hint_is s rows k e h r m) ∙ a) in
      let linear = subst (λ (t : Target). listing_answer (is_matrix t) c ≡ done) e k.sound.circuit in
      (right, reached_computes c rows j D (told f) linear (refusing.row_fits s k.sound rows e j D h).1 right.reaches)

  -- and there is one such result only,
  pub hint_unique : (p : Present) → Stands b p → (r s : Hinted) → HintPromise b j D r → HintPromise b j D s → r ≡ s
  hint_unique p k r s m n = m p k ∙ sym (n p k)

  -- in numbers too.
  pub hint_no_unique : (p : Present) → Stands b p → (r s : FoundNumbers) → HintCode b j D r → HintCode b j D s → r ≡ s
  hint_no_unique p k r s m n = m p k ∙ sym (n p k)

-- ---- in numbers

-- A query's refusal keeps its number,
pub refusal-number : (why : QueryRefusal) → refusal_no (hint_refusal why) ≡ query_refusal_no why
refusal-number Inputs = refl
refusal-number Lists = refl
refusal-number Mask = refl
refusal-number Depth = refl

-- and a query's answer its code.
pub answer_code : (a : Result (Option ℕ) QueryRefusal) → hint_code (hint_answer a) ≡ distance_code a
answer_code (Ok (Some g)) = refl
answer_code (Ok None) = refl
answer_code (Err why) = ap (λ (x : ℕ). 100 + x) (refusal-number why)

-- The code of a hint in numbers is that of its answer.
pub numbers_are : (a : Answer) (xs : List ℕ) → (hint_numbers (hinted a xs)).code ≡ hint_code a
numbers_are (Ok (Some g)) xs = refl
numbers_are (Ok None) xs = refl
numbers_are (Err why) xs = refl

-- 0 is no refusal; every other number is the refusal's own.
pub number_gates : (g : ℕ) → hint_no {A = Option ℕ} (Ok (Some g)) ≡ 0
number_gates g = refl

pub number_never : hint_no {A = Option ℕ} (Ok None) ≡ 0
number_never = refl

pub number-refused : (why : Refusal) → hint_no {A = Option ℕ} (Err why) ≡ refusal_no why
number-refused why = refl

-- Nothing open is 13,
pub number_nothing : (j D : ℕ) → hint_no (hint_of nothing j D) ≡ 13
number_nothing j D = refl

-- no matrix 12,
pub number_table : (c : Listing) (entries : List ℕ) (j D : ℕ) → hint_no (hint_under c (table entries) j D) ≡ 12
number_table c entries j D = refl

-- and no row j 12.
pub number-no_row : (c : Listing) (rows : List Row) (j D : ℕ) → length rows ≤ j → hint_no (hint_under c (matrix rows) j D) ≡ 12
number-no_row c rows j D h = ap (λ (x : Bool). hint_no (cond x (hint_for c (get_or rows j no_row).mask D) (Err NotThere))) (le-ltb j (length rows) h)

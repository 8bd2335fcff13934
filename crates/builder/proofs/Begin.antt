-- Laws of the beginning and of the end: the inputs at their arrivals as a base, the rows' distances from them, and the circuit as the code holds it.
use mathlib.Core.Bool.{Bool, true, false, cond}
use mathlib.Core.List.{List, [], ◌∷◌, ◌++◌, map}
use mathlib.Core.Path.{◌≡◌, refl, sym, ap, ap₂, ◌∙◌, subst}
use Prim.Native.Nat.{ℕ, zero, suc, ◌-◌, ◌*◌, ◌^◌, ◌≤◌, ◌<◌}
use native.Mathlib.Omega.{arith}
use borrow.Author.Tests.{ltb-false}
use lib.Dec.{eqb}
use lib.ListN.{length, get_or, take, replicate, length-append, length-map}
use Rattle.circuit.specs.Lines.{padded, Gate}
use Rattle.circuit.specs.Structs.{column, held}
use Rattle.circuit.specs.Sizes.{most_inputs, most_outputs, most_gates, most_lines}
use Rattle.circuit.proofs.Padding.{padded-none, padded_same, padded-length, padded-take, pad_read}
use Rattle.distance.specs.Base.{Line, line, base_of, Xor, made, run, Shallow, arriving, weight, load}
use Rattle.distance.specs.Distance.{gates, distance}
use Rattle.distance.proofs.Fewest.{distance_fewest, fewest_distance}
use Rattle.distance.proofs.Weight.{distance-arriving, small_arriving, no_weight, weight-le}
use Rattle.builder.specs.declared.grow.State.{State}
use Rattle.builder.specs.Rule.{Row, row, rows_of, reach, count, distances, sum, lowest, taken, next_gate, greedy, xor_gate, greedy_circuit}
use Rattle.builder.specs.Late.{too_late, late_built}
use Rattle.builder.specs.Kept.{SoundRows, Alive, Held, base, Poised, SoFar, Grown, Fit, Looking, Begun}
use Rattle.builder.proofs.Lists.{rows_length, rows_at}
use Rattle.builder.proofs.Refusals.{Accepted, looking, any_none}

-- ---- the inputs
is_arriving : (ar : List ℕ) → length ar ≤ most_inputs → base_of (take (length ar) (1 ∷ 2 ∷ 4 ∷ 8 ∷ 16 ∷ 32 ∷ 64 ∷ 128 ∷ replicate most_gates 0)) ar ≡ arriving (length ar) ar
is_arriving [] h = refl
is_arriving (a ∷ []) h = refl
is_arriving (a ∷ b ∷ []) h = refl
is_arriving (a ∷ b ∷ c ∷ []) h = refl
is_arriving (a ∷ b ∷ c ∷ d ∷ []) h = refl
is_arriving (a ∷ b ∷ c ∷ d ∷ e ∷ []) h = refl
is_arriving (a ∷ b ∷ c ∷ d ∷ e ∷ f ∷ []) h = refl
is_arriving (a ∷ b ∷ c ∷ d ∷ e ∷ f ∷ g ∷ []) h = refl
is_arriving (a ∷ b ∷ c ∷ d ∷ e ∷ f ∷ g ∷ k ∷ []) h = refl
is_arriving (a ∷ b ∷ c ∷ d ∷ e ∷ f ∷ g ∷ k ∷ l ∷ ar) h = absurd (omega arith)

pub arriving-length : (n : ℕ) (ar : List ℕ) → length (arriving n ar) ≡ n
arriving-length zero ar = refl
arriving-length (suc n) ar = omega (arith, length-append (arriving n ar) (line (2 ^ n) (get_or ar n 0) ∷ []), arriving-length n ar)

pub begun_base : (n : ℕ) (ar ts : List ℕ) (s : State) → Fit n ar ts → Begun n ar ts s → base s ≡ arriving n ar
unfolding base
begun_base n ar ts s f b =
    let M : List ℕ = 1 ∷ 2 ∷ 4 ∷ 8 ∷ 16 ∷ 32 ∷ 64 ∷ 128 ∷ replicate most_gates 0 in
    let e = sym f.arrivals in
    (λ i. base_of (take (b.long i) (b.masks_are i)) (take (b.long i) (b.depths_are i)))
    ∙ ap (base_of (take n M)) (padded-take most_lines 0 ar n e)
    ∙ ap (λ (k : ℕ). base_of (take k M) ar) e
    ∙ is_arriving ar (omega (arith, f.arrivals, f.inputs))
    ∙ ap (λ (k : ℕ). arriving k ar) (sym e)

-- the table of the inputs is that of its base
pub begun_table : (n : ℕ) (ar ts : List ℕ) (s : State) (h : List ℕ) → Fit n ar ts → Begun n ar ts s → Held h (arriving n ar) 9 → Held h (base s) 9
begun_table n ar ts s h f b o = subst (λ (ls : List Line). Held h ls 9) (sym (begun_base n ar ts s f b)) o

-- ---- the rows' distances from the inputs

-- a row that is not refused
pub record Right (n : ℕ) (ar : List ℕ) (t D : ℕ) : Type 0 where
  pub some : t ≡ 0 → ⊥
  pub below : t < 2 ^ n
  pub shallow : D < 16
  pub light : load n ar t ≤ 2 ^ D

pub reach-arriving : (n : ℕ) (ar : List ℕ) (t D : ℕ) → n ≤ most_inputs → Right n ar t D → reach (arriving n ar) (row t D) ≡ gates (weight n t - 1)
unfolding reach
reach-arriving n ar t D h r = go (weight n t) refl
  where
    go : (w : ℕ) → weight n t ≡ w → distance 8 (arriving n ar) t D ≡ gates (weight n t - 1)
    go zero e = absurd (r.some (no_weight n t r.below e))
    go (suc w) e =
        let z : w ≡ weight n t - 1 = omega arith in
        let i = distance-arriving n ar t D w r.below r.shallow e r.light in
        let f = distance_fewest n (arriving n ar) t D w (small_arriving n n ar (omega arith)) r.some i in
        fewest_distance 8 (arriving n ar) t D (small_arriving 8 n ar h) r.some w f ∙ ap gates z

module _ (n : ℕ) (ar : List ℕ) (inputs_few : n ≤ most_inputs) where
  abbrev pub Rights : List ℕ → List ℕ → Type 0
  Rights ts ds = (i : ℕ) → i < length ts → Right n ar (get_or ts i 0) (get_or ds i 0)

  first_distances : (ts ds : List ℕ) → length ts ≡ length ds → Rights ts ds → map (λ (t : ℕ). weight n t - 1) ts ≡ distances (arriving n ar) (rows_of ts ds)
  first_distances [] ds e f = refl
  first_distances (t ∷ ts) [] e f = absurd (omega arith)
  first_distances (t ∷ ts) (d ∷ ds) e f =
      ap₂ (λ (x : ℕ) (l : List ℕ). x ∷ l) (sym (ap count (reach-arriving n ar t d inputs_few (f 0 (omega arith))))) (first_distances ts ds (omega arith) (λ i h. f (suc i) (omega arith)))

  pub first_alive : (ts ds : List ℕ) → length ts ≡ length ds → Rights ts ds → Alive (arriving n ar) (rows_of ts ds)
  first_alive [] ds e f = tt
  first_alive (t ∷ ts) [] e f = absurd (omega arith)
  first_alive (t ∷ ts) (d ∷ ds) e f = ((weight n t - 1, reach-arriving n ar t d inputs_few (f 0 (omega arith))), first_alive ts ds (omega arith) (λ i h. f (suc i) (omega arith)))

  pub first_sound : (ts ds : List ℕ) → length ts ≡ length ds → Rights ts ds → SoundRows (rows_of ts ds)
  first_sound [] ds e f = tt
  first_sound (t ∷ ts) [] e f = absurd (omega arith)
  first_sound (t ∷ ts) (d ∷ ds) e f = (record { some = (f 0 (omega arith)).some; shallow = (f 0 (omega arith)).shallow }, first_sound ts ds (omega arith) (λ i h. f (suc i) (omega arith)))

  -- the sum over rows of weight less one
  pub first_sum : (ts ds : List ℕ) → length ts ≡ length ds → Rights ts ds → sum (distances (arriving n ar) (rows_of ts ds)) ≡ sum (map (λ (t : ℕ). weight n t - 1) ts)
  first_sum ts ds e f = ap sum (sym (first_distances ts ds e f))

  pub first_little : (ts : List ℕ) → ((i : ℕ) → get_or ts i 0 < 2 ^ n) → sum (map (λ (t : ℕ). weight n t - 1) ts) ≤ 7 * length ts
  first_little [] f = omega arith
  first_little (t ∷ ts) f = omega (arith, weight-le n t (f 0), first_little ts (λ i. f (suc i)))

-- an accepted call has such rows
pub rights : (n : ℕ) (ar ts ds : List ℕ) → Accepted n ar ts ds → (i : ℕ) → i < length ts → Right n ar (get_or ts i 0) (get_or ds i 0)
rights n ar ts ds a i h =
    let l = looking n ar ts ds a.ahead in
    let r = rows_at ts ds i l.limits in
    let late = any_none (too_late n ar) (rows_of ts ds) (row 0 0) a.light i (omega (arith, rows_length ts ds l.limits)) in
    record {
      some = l.fit.some i h;
      below = l.fit.below i;
      shallow = l.shallow i;
      light = ltb-false (2 ^ get_or ds i 0) (load n ar (get_or ts i 0)) (ap (too_late n ar) (sym r) ∙ late);
    }

-- ---- the state before the first step stands
module _ (n : ℕ) (ar ts ds : List ℕ) (a : Accepted n ar ts ds) (s : State) (b : Begun n ar ts s) (wide : length s.masks ≡ most_lines) where
  seen : Looking n ar ts ds
  seen = looking n ar ts ds a.ahead

  base_is : base s ≡ arriving n ar
  base_is = begun_base n ar ts s seen.fit b

  R : (i : ℕ) → i < length ts → Right n ar (get_or ts i 0) (get_or ds i 0)
  R = rights n ar ts ds a

  few_inputs : n ≤ most_inputs
  few_inputs = seen.fit.inputs

  padded_early : (i : ℕ) → get_or (padded most_lines 0 ar) i 0 < 16
  padded_early i = omega (arith, pad_read ar (most_lines - length ar) i 0, seen.fit.early i)

  sum_small : sum (distances (arriving n ar) (rows_of ts ds)) ≤ 224
  sum_small = omega (arith, first_sum n ar few_inputs ts ds seen.limits R, first_little n ar few_inputs ts seen.fit.below, seen.fit.few)

  poised : Poised ts ds s
  poised =
      record {
        within = omega (arith, b.long, few_inputs);
        wide = wide;
        deep = ap length b.depths_are ∙ padded-length most_lines 0 ar (omega (arith, seen.fit.arrivals, few_inputs));
        shallow = subst Shallow (sym b.depths_are) padded_early;
        paired = seen.limits;
        few = seen.fit.few;
        sound = first_sound n ar few_inputs ts ds seen.limits R;
        alive = rw base_is (first_alive n ar few_inputs ts ds seen.limits R);
        near = rw base_is (omega (arith, sum_small));
        gaps_are =
            b.gaps_are ∙ ap (padded most_outputs 0) (first_distances n ar few_inputs ts ds seen.limits R ∙ ap (λ (l : List Line). distances l (rows_of ts ds)) (sym base_is));
      }

  pub stands : SoFar (base s) ts ds s
  unfolding taken
  stands =
      let z : 224 - s.count ≡ 224 = omega (arith, b.none) in
      record {
        poised = poised;
        so_far = [];
        counted = sym b.none;
        upto = omega (arith, b.none);
        written = ap (λ (k : ℕ). greedy k (base s) (rows_of ts ds)) (sym z);
        ran = ap (λ (k : ℕ). run (base s) (greedy k (base s) (rows_of ts ds))) (sym z);
        lefts = b.lefts ∙ sym (padded-none most_gates 0);
        rights = b.rights ∙ sym (padded-none most_gates 0);
        few_inputs = omega (arith, ap length base_is, arriving-length n ar, few_inputs);
        long = omega (arith, b.long, b.none, ap length base_is, arriving-length n ar);
      }

-- ---- the circuit as the code holds it
-- a field of the gates of some XORs, one by one
fields : (f : Xor → ℕ) (f' : Gate → ℕ) → ((g : Xor) → f g ≡ f' (xor_gate g)) → (gs : List Xor) → map f gs ≡ map f' (map xor_gate gs)
fields f f' e [] = refl
fields f f' e (g ∷ gs) = ap₂ (λ (x : ℕ) (l : List ℕ). x ∷ l) (e g) (fields f f' e gs)

-- their kinds are all 0
kinds_zero : (gs : List Xor) → length gs ≤ most_gates → replicate most_gates 0 ≡ column (λ (q : Gate). q.kind) (map xor_gate gs)
kinds_zero gs h = sym (padded_same most_gates 0 (length gs) h) ∙ ap (padded most_gates 0) (zeros gs)
  where
    zeros : (gs : List Xor) → replicate (length gs) 0 ≡ map (λ (q : Gate). q.kind) (map xor_gate gs)
    zeros [] = refl
    zeros (g ∷ gs) = ap (λ (l : List ℕ). 0 ∷ l) (zeros gs)

pub greedy_few : (f : ℕ) (ls : List Line) (rs : List Row) → length (greedy f ls rs) ≤ f
greedy_few zero ls rs = omega arith
greedy_few (suc f) ls rs = let g = next_gate ls rs in go (eqb (sum (distances ls rs)) 0) (greedy f (ls ++ (made ls g ∷ [])) rs) (greedy_few f (ls ++ (made ls g ∷ [])) rs)
  where
    go : (x : Bool) (l : List Xor) → length l ≤ f → length (cond x [] (next_gate ls rs ∷ l)) ≤ suc f
    go true l h = omega arith
    go false l h = omega arith

pub taken_few : (ls : List Line) (rs : List Row) → length (taken ls rs) ≤ 224
unfolding taken
taken_few ls rs = greedy_few 224 ls rs

pub circuit_held : (n m : ℕ) (ls : List Line) (rs : List Row) (s : State) (outs : List ℕ) → m ≡ length rs → Grown ls rs s
    → outs ≡ padded most_outputs 0 (map (lowest (base s)) rs)
    → record { n = n; m = m; g = s.count; kinds = replicate most_gates 0; left = s.left; right = s.right; outputs = outs } ≡ held (greedy_circuit n ls rs)
unfolding greedy_circuit
circuit_held n m ls rs s outs h g e =
    let gs = taken ls rs in
    let few = taken_few ls rs in
    let k = kinds_zero gs (omega arith) in
    let l = g.lefts ∙ ap (padded most_gates 0) (fields (λ (q : Xor). q.a) (λ (q : Gate). q.left) (λ q. refl) gs) in
    let r = g.rights ∙ ap (padded most_gates 0) (fields (λ (q : Xor). q.b) (λ (q : Gate). q.right) (λ q. refl) gs) in
    let o = e ∙ ap (λ (x : List Line). padded most_outputs 0 (map (lowest x) rs)) g.lines_are in
    let c = g.counted ∙ sym (length-map gs xor_gate) in
    let q : m ≡ length (map (lowest (run ls gs)) rs) = h ∙ sym (length-map rs (lowest (run ls gs))) in
    λ i. record { n = n; m = q i; g = c i; kinds = k i; left = l i; right = r i; outputs = o i }

pub late_held : (n : ℕ) (ar ts ds : List ℕ) (s : State) (outs : List ℕ) → length ts ≡ length ds → Grown (arriving n ar) (rows_of ts ds) s
    → outs ≡ padded most_outputs 0 (map (lowest (base s)) (rows_of ts ds))
    → record { n = n; m = length ts; g = s.count; kinds = replicate most_gates 0; left = s.left; right = s.right; outputs = outs } ≡ held (late_built n ar ts ds)
unfolding late_built
late_held n ar ts ds s outs e g o = circuit_held n (length ts) (arriving n ar) (rows_of ts ds) s outs (sym (rows_length ts ds e)) g o

-- The lines that a query answers by their numbers in the circuit. Assumes nothing.
use Rattle.std.specs.Prelude.{Option, Some, None, Result, Ok, Err}
use mathlib.Core.Path.{◌≡◌, refl, ap, ◌∙◌, sym}
use mathlib.Core.List.{List, [], map}
use Prim.Native.Nat.{ℕ, ◌+◌, ◌-◌, ◌≤◌, ◌<◌}
use native.Mathlib.Omega.{arith}
use lib.ListN.{length, get_or, set, take, length-map}
use Rattle.circuit.specs.Lines.{padded, upto}
use Rattle.circuit.specs.Sizes.{most_inputs, most_lines}
use Rattle.circuit.specs.Structs.{line_in}
use Rattle.circuit.proofs.Listed.{line_kept}
use Rattle.circuit.proofs.Padding.{pad_read, padded-length, padded-take}
use Rattle.circuit.proofs.Upto.{upto_same, upto_all, upto_put, map-upto}
use Rattle.distance.specs.declared.Found.{Found}
use Rattle.distance.specs.declared.Refusal.{Refusal as QueryRefusal}
use Rattle.distance.specs.Base.{base_of}
use Rattle.distance.specs.Query.{answer_of, lines_of, in_eight, found_of}
use Rattle.distance.proofs.Sound.{found_some, found_never, found_err}
use Rattle.distance.proofs.Among.{lines_among, base_short}
use Rattle.distance.proofs.Each.{Each, each_to, each_get}
use Rattle.bench.specs.declared.Bench.{Bench}
use Rattle.hint.specs.declared.Base.{Base}
use Rattle.hint.specs.Hint.{picked, hint_refusal, hint_answer, Hinted, hinted}
use Rattle.hint.specs.Parts.{masks_on, shallow_among, gathered, numbered, hint_on}
use Rattle.hint.proofs.Gathering.{among_few}

-- ---- the loop that numbers them

-- before the first
pub numbered-none : (ls places : List ℕ) → in_eight [] ≡ numbered ls places 0
unfolding numbered upto
numbered-none ls places = refl

-- one more is stored
pub numbered-put : (ls places : List ℕ) (k : ℕ) (ns : List ℕ) (v : ℕ) → k < 8 → v ≡ get_or ls (line_in (get_or places k 0)) 0 → ns ≡ numbered ls places k
    → set ns k v ≡ numbered ls places (k + 1)
unfolding numbered
numbered-put ls places k ns v h e t = ap (λ (l : List ℕ). set l k v) t ∙ upto_put 8 0 (λ (i : ℕ). get_or ls (line_in (get_or places i 0)) 0) k v e h

-- from places that are below the lines there may be
pub numbered_is : (is xs : List ℕ) → Each (λ (x : ℕ). x < most_lines) xs
    → numbered (padded most_lines 0 is) (in_eight xs) (length xs) ≡ in_eight (picked xs is)
unfolding numbered
numbered_is is xs below =
    let at : ℕ → ℕ = λ p. get_or is p 0 in
    let each : (k : ℕ) → k < length xs → get_or (padded most_lines 0 is) (line_in (get_or (in_eight xs) k 0)) 0 ≡ get_or is (get_or xs k 0) 0 = λ k h.
    ap (λ (p : ℕ). get_or (padded most_lines 0 is) (line_in p) 0) (pad_read xs (8 - length xs) k 0)
    ∙ ap (λ (p : ℕ). get_or (padded most_lines 0 is) p 0) (line_kept _ (each_get (λ (x : ℕ). x < most_lines) xs k h below)) ∙ pad_read is (most_lines - length is) (get_or xs k 0) 0 in
    ap in_eight (upto_same _ (λ (k : ℕ). get_or is (get_or xs k 0) 0) (length xs) each ∙ sym (map-upto at (λ (k : ℕ). get_or xs k 0) (length xs)) ∙ ap (map at) (upto_all xs 0))

-- ---- the query from the lines on a bench
module _ (b : Bench) (t D : ℕ) (base : Base) (r : Result (Option Found) QueryRefusal) (n_most : b.n ≤ most_inputs) (fits : b.n + b.g ≤ most_lines)
    (based : base ≡ gathered (masks_on b) b.depths (b.n + b.g))
    (asked : r ≡ found_of b.n (take base.count base.masks) (take base.count base.depths) t D) where
  -- the lines at most 15 deep
  abbrev is : List ℕ
  is = shallow_among b.depths (b.n + b.g)

  -- what they have
  abbrev ms : List ℕ
  ms = picked is (masks_on b)

  abbrev ds : List ℕ
  ds = picked is b.depths

  abbrev xs : List ℕ
  xs = lines_of b.n ms ds t D

  found_is : r ≡ found_of b.n ms ds t D
  unfolding gathered
  found_is =
      let p = ap (λ (x : Base). take x.count x.masks) based ∙ padded-take most_lines 0 ms (length is) (sym (length-map is _)) in
      let q = ap (λ (x : Base). take x.count x.depths) based ∙ padded-take most_lines 0 ds (length is) (sym (length-map is _)) in
      asked ∙ (λ i. found_of b.n (p i) (q i) t D)

  -- refused, as the query is
  pub asked_err : (why : QueryRefusal) → r ≡ Err why → Err (hint_refusal why) ≡ hint_on b t D
  unfolding hint_on
  asked_err why e = sym (ap (λ (a : Result (Option ℕ) QueryRefusal). hinted (hint_answer a) (picked xs is)) (found_err b.n ms ds t D why (sym found_is ∙ e)))

  -- no distance
  pub asked_none : r ≡ Ok None → Ok None ≡ hint_on b t D
  unfolding hint_on
  asked_none e = sym (ap (λ (a : Result (Option ℕ) QueryRefusal). hinted (hint_answer a) (picked xs is)) (found_never b.n ms ds t D (sym found_is ∙ e)))

  -- a distance, whose lines get their numbers
  module _ (f : Found) (some : r ≡ Ok (Some f)) where
    parts : (answer_of b.n ms ds t D ≡ Ok (Some f.gates)) × (f.lines ≡ in_eight xs) × (f.count ≡ length xs)
    parts = found_some b.n ms ds t D f (sym found_is ∙ some)

    pub found_few : f.count ≤ 8
    found_few = omega (arith, parts.2, (lines_among b.n ms ds t D).few)

    pub asked_is : (ns : List ℕ) → ns ≡ numbered base.lines f.lines f.count
        → ◌≡◌ {A = Hinted} (Ok (Some (record { gates = f.gates; lines = ns; count = f.count }))) (hint_on b t D)
    unfolding gathered hint_on
    asked_is ns en =
        let few : length (base_of ms ds) ≤ most_lines =
        omega (arith, base_short ms ds, length-map is (λ (i : ℕ). get_or (masks_on b) i 0), among_few b.depths (b.n + b.g)) in
        let below = each_to (length (base_of ms ds)) most_lines xs few (lines_among b.n ms ds t D).below in
        let q = en ∙ (λ i. numbered (based i).lines (parts.1 i) (parts.2 i)) ∙ numbered_is is xs below in
        let c = parts.2 ∙ sym (length-map xs _) in
        (λ i. Ok (Some (record { gates = f.gates; lines = q i; count = c i })))
        ∙ sym (ap (λ (a : Result (Option ℕ) QueryRefusal). hinted (hint_answer a) (picked xs is)) parts.0)

-- the base lies within its arrays
pub base_fits : (ms ds : List ℕ) (count : ℕ) (base : Base) → count ≤ most_lines → base ≡ gathered ms ds count
    → (base.count ≤ length base.masks) × (base.count ≤ length base.depths) × (base.count ≤ most_lines)
unfolding gathered
base_fits ms ds count base h e =
    let is = shallow_among ds count in
    let k = ap (λ (x : Base). x.count) e in
    let long : (xs arr : List ℕ) → arr ≡ padded most_lines 0 (picked is xs) → base.count ≤ length arr = λ xs arr a.
    omega (arith, ap length a, padded-length most_lines 0 (picked is xs) (omega (arith, length-map is (λ (i : ℕ). get_or xs i 0), among_few ds count)), among_few ds count) in
    (long ms base.masks (ap (λ (x : Base). x.masks) e), long ds base.depths (ap (λ (x : Base). x.depths) e), omega (arith, among_few ds count))

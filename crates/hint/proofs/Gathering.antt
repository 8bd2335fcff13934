-- The base of a hint, as the lines are passed one by one. Assumes nothing.
use mathlib.Core.Path.{◌≡◌, refl, ap, ap₂, ◌∙◌, sym}
use mathlib.Core.Bool.{Bool, true, false, cond}
use mathlib.Core.List.{List, [], ◌∷◌, ◌++◌, map, append-nil}
use Prim.Native.Nat.{ℕ, suc, ◌+◌, ◌≤◌, ◌<◌}
use native.Mathlib.Omega.{arith}
use borrow.Author.Tests.{le-leb, lt-leb}
use lib.Dec.{leb}
use lib.ListN.{length, get_or, set, length-map, length-append}
use Rattle.circuit.specs.Lines.{padded, upto}
use Rattle.circuit.specs.Sizes.{most_lines}
use Rattle.circuit.proofs.Padding.{padded-put}
use Rattle.circuit.proofs.Upto.{upto-suc, upto-length, map_snoc}
use Rattle.bench.specs.Calls.{places_from}
use Rattle.bench.proofs.Places.{places_append}
use Rattle.hint.specs.declared.Base.{Base}
use Rattle.hint.specs.Hint.{shallow, picked}
use Rattle.hint.specs.Parts.{shallow_among, base_with, gathered}

-- a line is at most 15 deep
abbrev fine : ℕ → Bool
fine d = leb d 15

-- one depth more
shallow_snoc : (ds : List ℕ) (d : ℕ) → shallow (ds ++ (d ∷ [])) ≡ shallow ds ++ cond (fine d) (length ds ∷ []) []
unfolding shallow places_from
shallow_snoc ds d =
    let e : 0 + length (map fine ds) ≡ length ds = omega (arith, length-map ds fine) in
    ap (places_from 0) (map_snoc fine ds d) ∙ places_append 0 (map fine ds) (fine d ∷ [])
    ∙ ap (λ (k : ℕ). places_from 0 (map fine ds) ++ places_from k (fine d ∷ [])) e

-- no more are listed than are marked or not
few_places : (i : ℕ) (xs : List Bool) → length (places_from i xs) ≤ length xs
unfolding places_from
few_places i [] = omega arith
few_places i (true ∷ xs) = omega (arith, few_places (suc i) xs)
few_places i (false ∷ xs) = omega (arith, few_places (suc i) xs)

-- no more lines are shallow than there are
pub shallow_few : (ds : List ℕ) → length (shallow ds) ≤ length ds
unfolding shallow
shallow_few ds = omega (arith, few_places 0 (map fine ds), length-map ds fine)

pub among_few : (ds : List ℕ) (count : ℕ) → length (shallow_among ds count) ≤ count
among_few ds count = omega (arith, shallow_few (upto (λ (k : ℕ). get_or ds k 0) count), upto-length (λ (k : ℕ). get_or ds k 0) count)

module _ (ms ds : List ℕ) where
  -- the first i depths
  abbrev firsts : ℕ → List ℕ
  firsts i = upto (λ (k : ℕ). get_or ds k 0) i

  -- the shallow lines among the first i + 1
  next : (i : ℕ) → shallow (firsts (i + 1)) ≡ shallow (firsts i) ++ cond (fine (get_or ds i 0)) (i ∷ []) []
  next i =
      ap shallow (upto-suc (λ (k : ℕ). get_or ds k 0) i) ∙ shallow_snoc (firsts i) (get_or ds i 0)
      ∙ ap (λ (k : ℕ). shallow (firsts i) ++ cond (fine (get_or ds i 0)) (k ∷ []) []) (upto-length (λ (k : ℕ). get_or ds k 0) i)

  -- no line
  pub gathered_none : base_with [] ms ds ≡ gathered ms ds 0
  unfolding gathered shallow places_from upto
  gathered_none = refl

  -- one that is too deep
  pub gathered_skip : (i : ℕ) → 15 < get_or ds i 0 → gathered ms ds i ≡ gathered ms ds (i + 1)
  unfolding gathered
  gathered_skip i h =
      ap (λ (is : List ℕ). base_with is ms ds)
      (sym (next i ∙ ap (λ (t : Bool). shallow (firsts i) ++ cond t (i ∷ []) []) (lt-leb _ _ h) ∙ append-nil (shallow (firsts i))))

  -- and one that is not: it is stored
  pub gathered-put : (i : ℕ) (ns es ls : List ℕ) (k v : ℕ) → get_or ds i 0 ≤ 15 → k < most_lines → v ≡ i
      → ◌≡◌ {A = Base} (record { masks = ns; depths = es; lines = ls; count = k }) (gathered ms ds i)
      → ◌≡◌ {A = Base} (record { masks = set ns k (get_or ms i 0); depths = set es k (get_or ds i 0); lines = set ls k v; count = k + 1 }) (gathered ms ds (i + 1))
  unfolding gathered
  gathered-put i ns es ls k v h room ev t =
      let is = shallow (firsts i) in
      let n : shallow (firsts (i + 1)) ≡ is ++ (i ∷ []) = next i ∙ ap (λ (s : Bool). is ++ cond s (i ∷ []) []) (le-leb _ _ h) in
      let e : k ≡ length is = ap (λ (b : Base). b.count) t in
      let put : (xs arr : List ℕ) → arr ≡ padded most_lines 0 (picked is xs) → set arr k (get_or xs i 0) ≡ padded most_lines 0 (picked (is ++ (i ∷ [])) xs) =
      λ xs arr a. ap (λ (l : List ℕ). set l k (get_or xs i 0)) a ∙ padded-put most_lines 0 (picked is xs) k (get_or xs i 0) (e ∙ sym (length-map is _)) room
      ∙ ap (padded most_lines 0) (sym (map_snoc (λ (z : ℕ). get_or xs z 0) is i)) in
      let p = put ms ns (ap (λ (b : Base). b.masks) t) in
      let q = put ds es (ap (λ (b : Base). b.depths) t) in
      let r : set ls k v ≡ padded most_lines 0 (is ++ (i ∷ [])) =
      ap₂ (λ (l : List ℕ) (w : ℕ). set l k w) (ap (λ (b : Base). b.lines) t) ev ∙ padded-put most_lines 0 is k i e room in
      let c : k + 1 ≡ length (is ++ (i ∷ [])) = omega (arith, length-append is (i ∷ [])) in
      (λ z. record { masks = p z; depths = q z; lines = r z; count = c z }) ∙ ap (λ (l : List ℕ). base_with l ms ds) (sym n)

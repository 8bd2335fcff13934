-- What a line has in the circuit built, found from its mask and depth in the base: its depth, and its value on each input.
use mathlib.Core.List.{List, [], ◌∷◌, ◌++◌, map, map-append}
use mathlib.Core.Path.{◌≡◌, refl, sym, ap, ap₂, ◌∙◌}
use Prim.Native.Nat.{ℕ, zero, suc, ◌^◌, ◌≤◌, max}
use native.Mathlib.Omega.{arith}
use lib.Bits.{bit_xor}
use lib.ListN.{length, get_or, take, get_or-map, length-map}
use lib.Seq.{take-suc, take-length}
use Rattle.circuit.specs.Gate.{row_value_on}
use Rattle.circuit.specs.Lines.{reads, upto, no_gate, depth_step, truth_step, inputs_on, Gate, lines}
use Rattle.circuit.proofs.ParityLaws.{row-xor, row_input}
use Rattle.distance.specs.Base.{Line, line, none, Xor, xor, made, run, arriving}
use Rattle.builder.specs.Rule.{xor_gate}

-- ---- lines
pub run_snoc : (gs : List Xor) (ls : List Line) (g : Xor) → run ls (gs ++ (g ∷ [])) ≡ run ls gs ++ (made (run ls gs) g ∷ [])
run_snoc [] ls g = refl
run_snoc (x ∷ gs) ls g = run_snoc gs (ls ++ (made ls x ∷ [])) g

-- what is found of a line (`of`) goes through a gate as the step says
module _ {A : Type 0} (of : Line → A) (step : ℕ → Gate → List A → A) (d : A) (nothing : d ≡ of none)
    (same : (k : ℕ) (g : Xor) (x y : Line) → step k (xor_gate g) (of x ∷ of y ∷ []) ≡ of (line (bit_xor x.mask y.mask) (suc (max x.depth y.depth)))) where
  pub lines_run : (ls : List Line) (gs : List Xor) (j : ℕ) → j ≤ length gs
      → lines step d (map of ls) (λ (k : ℕ). get_or (map xor_gate gs) k no_gate) j ≡ map of (run ls (take j gs))
  unfolding lines reads
  lines_run ls gs zero h = refl
  lines_run ls gs (suc j) h =
      let p = run ls (take j gs) in
      let g = get_or gs j (xor 0 0) in
      let e : get_or (map xor_gate gs) j no_gate ≡ xor_gate g = get_or-map xor_gate gs j (xor 0 0) in
      let at : (i : ℕ) → get_or (map of p) i d ≡ of (get_or p i none) = λ i. ap (get_or (map of p) i) nothing ∙ get_or-map of p i none in
      ap₂ (λ (l : List A) (q : Gate). l ++ (step j q (map (λ (i : ℕ). get_or l i d) (reads q)) ∷ [])) (lines_run ls gs j (omega arith)) e
      ∙ ap (λ (x : A). map of p ++ (x ∷ [])) (ap₂ (λ (x y : A). step j (xor_gate g) (x ∷ y ∷ [])) (at g.a) (at g.b) ∙ same j g (get_or p g.a none) (get_or p g.b none))
      ∙ sym (map-append of p (made p g ∷ []))
      ∙ ap (map of) (sym (run_snoc (take j gs) ls g) ∙ ap (run ls) (sym (take-suc gs j (xor 0 0) (omega arith))))

  pub lines_whole : (ls : List Line) (gs : List Xor) → lines step d (map of ls) (λ (k : ℕ). get_or (map xor_gate gs) k no_gate) (length (map xor_gate gs)) ≡ map of (run ls gs)
  lines_whole ls gs =
      ap (lines step d (map of ls) (λ (k : ℕ). get_or (map xor_gate gs) k no_gate)) (length-map gs xor_gate)
      ∙ lines_run ls gs (length gs) (omega arith)
      ∙ ap (λ (l : List Xor). map of (run ls l)) (take-length gs)

-- ---- depth
pub depth-step : (k : ℕ) (g : Xor) (x y : Line) → depth_step k (xor_gate g) (x.depth ∷ y.depth ∷ []) ≡ suc (max x.depth y.depth)
depth-step k g x y = omega arith

taken-depths : (n : ℕ) (ar : List ℕ) → n ≤ length ar → map (λ (l : Line). l.depth) (arriving n ar) ≡ take n ar
taken-depths zero ar h = refl
taken-depths (suc n) ar h =
    map-append (λ (l : Line). l.depth) (arriving n ar) (line (2 ^ n) (get_or ar n 0) ∷ [])
    ∙ ap (λ (l : List ℕ). l ++ (get_or ar n 0 ∷ [])) (taken-depths n ar (omega arith))
    ∙ sym (take-suc ar n 0 (omega arith))

pub arrival_depths : (n : ℕ) (ar : List ℕ) → length ar ≡ n → ar ≡ map (λ (l : Line). l.depth) (arriving n ar)
arrival_depths n ar e = sym (taken-depths n ar (omega arith) ∙ ap (λ (k : ℕ). take k ar) (sym e) ∙ take-length ar)

-- ---- value
pub input_values : (n k : ℕ) (ar : List ℕ) (x : ℕ) → k ≤ n → inputs_on k x ≡ map (λ (l : Line). row_value_on n l.mask x) (arriving k ar)
unfolding upto
input_values n zero ar x h = refl
input_values n (suc k) ar x h =
    ap₂ (λ (l : List ℕ) (u : ℕ). l ++ (u ∷ [])) (input_values n k ar x (omega arith)) (sym (row_input n k x (omega arith)))
    ∙ sym (map-append (λ (l : Line). row_value_on n l.mask x) (arriving k ar) (line (2 ^ k) (get_or ar k 0) ∷ []))

pub value_step : (n x k : ℕ) (g : Xor) (a b : Line) → truth_step k (xor_gate g) (row_value_on n a.mask x ∷ row_value_on n b.mask x ∷ []) ≡ row_value_on n (bit_xor a.mask b.mask) x
value_step n x k g a b = sym (row-xor n a.mask b.mask x)

-- What an acceptance shows, and what the answer is past each test. Assumes nothing.
use Rattle.std.specs.Prelude.{Err}
use Rattle.circuit.specs.Rules.{done}
use mathlib.Core.Path.{◌≡◌, refl, ap, ap₂, ◌∙◌, sym}
use mathlib.Core.Bool.{Bool, true, false, ◌&&◌}
use mathlib.Core.List.{List, [], ◌∷◌, ◌++◌, map}
use Prim.Native.Nat.{ℕ, zero, suc, ◌≤◌, ◌<◌, ◌-◌, ◌+◌, ◌*◌}
use native.Mathlib.Omega.{arith}
use Rattle.std.specs.List.{starts_with}
use Rattle.std.proofs.Math.Bool.{and-true}
use borrow.Author.Tests.{eqb-true, eqb-false, eq-eqb, ne_eqb, le-leb, lt-leb}
use lib.Dec.{leb, eqb}
use lib.ListN.{length, get_or, drop, set, replicate, length-map}
use Rattle.circuit.specs.declared.Circuit.{Circuit}
use Rattle.circuit.specs.declared.Refusal.TheVariants.{Shape, Length, Mark}
use Rattle.circuit.specs.Sizes.{most_outputs, most_gates}
use Rattle.circuit.specs.Lines.{Gate}
use Rattle.circuit.specs.Structs.{column, held}
use Rattle.circuit.specs.Rules.{shaped, and_then}
use Rattle.circuit.proofs.Shapes.{Shaped, both, past, then_done, shape_is}
use Rattle.stored.specs.Stored.{records, listing_in, gate_in, out_in, field_of}
use Rattle.stored.specs.Reading.{answers, gate_here, out_here, body_answer, reading_answer, Whole}
use Rattle.stored.proofs.Records.{byte_at, records_length, records_put, records_none}

module _ (only : Bool) (s : List ℕ) (n m g : ℕ) where
  pub no_shape : shaped n m g ≡ false → Err Shape ≡ body_answer only s n m g
  unfolding body_answer
  no_shape e = simp e

  module _ (e : shaped n m g ≡ true) where
    pub no_length : (length s ≡ 5 + 5 * g + 3 * m → ⊥) → Err Length ≡ body_answer only s n m g
    unfolding body_answer
    no_length h = simp (e, ne_eqb (length s) (5 + 5 * g + 3 * m) h)

    pub body_is : length s ≡ 5 + 5 * g + 3 * m
        → and_then (answers (gate_here only) 5 n g (drop 5 s)) (answers (out_here (n + g)) 3 0 m (drop (5 + 5 * g) s)) ≡ body_answer only s n m g
    unfolding body_answer
    body_is h = simp (e, eq-eqb (length s) (5 + 5 * g + 3 * m) h)

eqb_comm : (a b : ℕ) → eqb a b ≡ eqb b a
eqb_comm a b = by (eqb a b) refl where
  by : (t : Bool) → eqb a b ≡ t → eqb a b ≡ eqb b a
  by true e = e ∙ sym (eq-eqb b a (sym (eqb-true a b e)))
  by false e = e ∙ sym (ne_eqb b a (λ z. eqb-false a b e (sym z)))

-- two bytes are a mark
pub mark_is : (s : List ℕ) (p q : ℕ) {r t : Bool} → 2 ≤ length s → r ≡ starts_with eqb s (p ∷ q ∷ []) → r ≡ t → (eqb (get_or s 0 0) p && eqb (get_or s 1 0) q) ≡ t
mark_is [] p q h e z = absurd (omega arith)
mark_is (x ∷ []) p q h e z = absurd (omega arith)
mark_is (x ∷ y ∷ s) p q h e z = (λ i. eqb_comm x p i && eqb_comm y q i) ∙ ap (λ (b : Bool). eqb p x && b) (sym (and-true (eqb q y))) ∙ sym e ∙ z

-- the header
module _ (only : Bool) (s : List ℕ) where
  pub too_short : length s < 5 → Err Length ≡ reading_answer only s
  unfolding reading_answer
  too_short h = simp (lt-leb 5 (length s) h)

  pub no_mark : 5 ≤ length s → eqb (get_or s 0 0) 83 && eqb (get_or s 1 0) 72 ≡ false → Err Mark ≡ reading_answer only s
  unfolding reading_answer
  no_mark h e = simp (le-leb 5 (length s) h, e)

  pub head_is : 5 ≤ length s → eqb (get_or s 0 0) 83 && eqb (get_or s 1 0) 72 ≡ true
      → body_answer only s (get_or s 2 0) (get_or s 3 0) (get_or s 4 0) ≡ reading_answer only s
  unfolding reading_answer
  head_is h e = simp (le-leb 5 (length s) h, e)

-- what an acceptance shows
pub record Accepted (only : Bool) (s : List ℕ) (n m g : ℕ) : Type 0 where
  pub first : get_or s 0 0 ≡ 83
  pub second : get_or s 1 0 ≡ 72
  pub shape : Shaped n m g
  pub long : length s ≡ 5 + 5 * g + 3 * m
  pub gates : answers (gate_here only) 5 n g (drop 5 s) ≡ done
  pub outs : answers (out_here (n + g)) 3 0 m (drop (5 + 5 * g) s) ≡ done

pub accepted : (only : Bool) (s : List ℕ) → reading_answer only s ≡ done → Accepted only s (get_or s 2 0) (get_or s 3 0) (get_or s 4 0)
unfolding reading_answer body_answer
accepted only s h =
    let n = get_or s 2 0 in
    let m = get_or s 3 0 in
    let g = get_or s 4 0 in
    let a = past (leb 5 (length s)) Length h in
    let b = past (eqb (get_or s 0 0) 83 && eqb (get_or s 1 0) 72) Mark a.1 in
    let k = both (eqb (get_or s 0 0) 83) b.0 in
    let c = past (shaped n m g) Shape b.1 in
    let d = past (eqb (length s) (5 + 5 * g + 3 * m)) Length c.1 in
    let e = then_done (answers (gate_here only) 5 n g (drop 5 s)) _ d.1 in
    record {
      first = eqb-true _ _ k.0;
      second = eqb-true _ _ k.1;
      shape = shape_is n m g c.0;
      long = eqb-true _ _ d.0;
      gates = e.0;
      outs = e.1;
    }

pub whole : (only : Bool) (s : List ℕ) → reading_answer only s ≡ done → Whole s
whole only s h = let a = accepted only s h in record { m_most = a.shape.m_most; g_most = a.shape.g_most; long = a.long }

-- the arrays of the circuit that some bytes hold, column by column
pub map_records : {A B : Type 0} (f : A → B) (here : List ℕ → A) (size c : ℕ) (s : List ℕ)
    → map f (records here size c s) ≡ records (λ (l : List ℕ). f (here l)) size c s
unfolding records
map_records f here size zero s = refl
map_records {B} f here size (suc c) s = ap (λ (l : List B). f (here s) ∷ l) (map_records f here size c (drop size s))

-- an array of a field of each gate, and zeros past the last
abbrev pub fields : ℕ → List ℕ → ℕ → List ℕ
fields k s j = records (field_of k) 5 j (drop 5 s) ++ replicate (most_gates - j) 0

-- before the first gate
pub fields_none : (k : ℕ) (s : List ℕ) → replicate most_gates 0 ≡ fields k s 0
fields_none k s = records_none (field_of k) 5 (drop 5 s) most_gates 0

-- the field of one gate more
pub fields_put : (k : ℕ) (s : List ℕ) (j at v : ℕ) (xs : List ℕ) → j < most_gates → at ≡ 5 + 5 * j → v ≡ get_or s (at + k) 0 → xs ≡ fields k s j → set xs j v ≡ fields k s (j + 1)
fields_put k s j at v xs h e w is = ap (λ (l : List ℕ). set l j v) is ∙ records_put (field_of k) 5 s 5 j most_gates at v 0 h e (w ∙ byte_at s at k)

-- a struct with the fields of the records in its arrays
abbrev pub columns : List ℕ → ℕ → ℕ → ℕ → Circuit
columns s n m g =
    record {
      n = n;
      m = m;
      g = g;
      kinds = fields 2 s g;
      left = fields 3 s g;
      right = fields 4 s g;
      outputs = records out_in 3 m (drop (5 + 5 * g) s) ++ replicate (most_outputs - m) 0;
    }

-- a column of the circuit that some bytes hold
column_is : (f : Gate → ℕ) (g : ℕ) (s : List ℕ) → records (λ (l : List ℕ). f (gate_in l)) 5 g s ++ replicate (most_gates - g) 0 ≡ column f (records gate_in 5 g s)
column_is f g s =
    let l : g ≡ length (map f (records gate_in 5 g s)) = sym (length-map (records gate_in 5 g s) f ∙ records_length gate_in 5 g s) in
    ap₂ (λ (xs : List ℕ) (k : ℕ). xs ++ replicate (most_gates - k) 0) (sym (map_records f gate_in 5 g s)) l

pub held_is : (s : List ℕ) → columns s (get_or s 2 0) (get_or s 3 0) (get_or s 4 0) ≡ held (listing_in s)
unfolding listing_in
held_is s =
    let g = get_or s 4 0 in
    let m = get_or s 3 0 in
    let os = records out_in 3 m (drop (5 + 5 * g) s) in
    let lm = sym (records_length out_in 3 m (drop (5 + 5 * g) s)) in
    let k = column_is (λ (q : Gate). q.kind) g (drop 5 s) in
    let l = column_is (λ (q : Gate). q.left) g (drop 5 s) in
    let r = column_is (λ (q : Gate). q.right) g (drop 5 s) in
    λ i. record {
      n = get_or s 2 0;
      m = lm i;
      g = sym (records_length gate_in 5 g (drop 5 s)) i;
      kinds = k i;
      left = l i;
      right = r i;
      outputs = os ++ replicate (most_outputs - lm i) 0;
    }

-- Laws of writing a part of a list over, and of the bytes of one gate or output more. Assumes nothing.
use mathlib.Core.Path.{◌≡◌, refl, ap, ◌∙◌, sym}
use mathlib.Core.List.{List, [], ◌∷◌, ◌++◌, append_assoc, append-nil}
use Prim.Native.Nat.{ℕ, zero, suc, ◌≤◌, ◌+◌, ◌*◌}
use native.Mathlib.Nat.{add-zero, mul-suc}
use native.Mathlib.Omega.{arith}
use lib.ListN.{length, take, drop, length-append, length-drop, take-append-drop}
use lib.Seq.{take_at, drop-append-add, drop-drop, length-take-le}
use borrow.Rule.Slice.PartMut.{put_mid}
use Rattle.circuit.specs.Lines.{Gate, upto}
use Rattle.circuit.proofs.Upto.{upto-suc}
use Rattle.stored.specs.Stored.{in_byte, gate_bytes, out_bytes}
use Rattle.stored.specs.Writing.{over}

pub over_none : (R : List ℕ) (at : ℕ) → R ≡ over R at []
over_none R at = sym ((λ i. append-nil (take at R) i ++ drop (add-zero at i) R) ∙ take-append-drop at R)

pub over-length : (R : List ℕ) (at : ℕ) (vs : List ℕ) → at + length vs ≤ length R → length (over R at vs) ≡ length R
over-length R at vs h =
    omega (
      arith,
      length-append (take at R ++ vs) (drop (at + length vs) R),
      length-append (take at R) vs,
      length-drop (at + length vs) R,
      length-take-le at R (omega arith),
    )

pub over-over : (R : List ℕ) (at : ℕ) (xs ys : List ℕ) → at + length xs + length ys ≤ length R
    → over (over R at xs) (at + length xs) ys ≡ over R at (xs ++ ys)
over-over R at xs ys h =
    let k = at + length xs in
    let P = take at R ++ xs in
    let D = drop k R in
    let lp : length P ≡ k = omega (arith, length-append (take at R) xs, length-take-le at R (omega arith)) in
    let t : take k (P ++ D) ≡ P = take_at P D k lp in
    let d : drop (k + length ys) (P ++ D) ≡ drop (k + length ys) R =
    ap (λ (x : ℕ). drop (x + length ys) (P ++ D)) (sym lp) ∙ drop-append-add P D (length ys) ∙ drop-drop (length ys) k R in
    let e : k + length ys ≡ at + length (xs ++ ys) = omega (arith, length-append xs ys) in
    (λ i. t i ++ ys ++ d i) ∙ (λ i. append_assoc (take at R) xs ys i ++ drop (e i) R)

-- a run of writes: what stands there is xs, and ys comes next
pub over_next : (R room : List ℕ) (from at : ℕ) (xs ys : List ℕ) → room ≡ over R from xs → at ≡ from + length xs → at + length ys ≤ length R
    → over room at ys ≡ over R from (xs ++ ys)
over_next R room from at xs ys p q h =
    (λ i. over (p i) (q i) ys) ∙ over-over R from xs ys (omega arith)

-- a part written
pub put_over : (R : List ℕ) (a k : ℕ) (ys vs : List ℕ) → ys ≡ vs → k ≡ length vs → put_mid a k R ys ≡ over R a vs
put_over R a k ys vs e h = (λ i. put_mid a (h i) R (e i)) ∙ ap (λ (l : List ℕ). take a R ++ (vs ++ l)) (drop-drop (length vs) a R) ∙ sym (append_assoc (take a R) vs (drop (a + length vs) R))

pub gate_bytes_snoc : (qs : List Gate) (q : Gate) → gate_bytes (qs ++ (q ∷ [])) ≡ gate_bytes qs ++ (71 ∷ 84 ∷ q.kind ∷ in_byte q.left ∷ in_byte q.right ∷ [])
unfolding gate_bytes
gate_bytes_snoc [] q = refl
gate_bytes_snoc (p ∷ qs) q = ap (λ (l : List ℕ). 71 ∷ 84 ∷ p.kind ∷ in_byte p.left ∷ in_byte p.right ∷ l) (gate_bytes_snoc qs q)

pub out_bytes_snoc : (os : List ℕ) (o : ℕ) → out_bytes (os ++ (o ∷ [])) ≡ out_bytes os ++ (79 ∷ 80 ∷ in_byte o ∷ [])
unfolding out_bytes
out_bytes_snoc [] o = refl
out_bytes_snoc (p ∷ os) o = ap (λ (l : List ℕ). 79 ∷ 80 ∷ in_byte p ∷ l) (out_bytes_snoc os o)

pub gates_suc : (f : ℕ → Gate) (j : ℕ) → gate_bytes (upto f j) ++ (71 ∷ 84 ∷ (f j).kind ∷ in_byte (f j).left ∷ in_byte (f j).right ∷ []) ≡ gate_bytes (upto f (j + 1))
gates_suc f j = sym (ap gate_bytes (upto-suc f j) ∙ gate_bytes_snoc (upto f j) (f j))

pub outs_suc : (f : ℕ → ℕ) (j : ℕ) → out_bytes (upto f j) ++ (79 ∷ 80 ∷ in_byte (f j) ∷ []) ≡ out_bytes (upto f (j + 1))
outs_suc f j = sym (ap out_bytes (upto-suc f j) ∙ out_bytes_snoc (upto f j) (f j))

pub gates_size : (f : ℕ → Gate) (j : ℕ) → length (gate_bytes (upto f j)) ≡ 5 * j
unfolding upto gate_bytes
gates_size f zero = refl
gates_size f (suc j) =
    omega (arith, ap length (gate_bytes_snoc (upto f j) (f j)), length-append (gate_bytes (upto f j)) (71 ∷ 84 ∷ (f j).kind ∷ in_byte (f j).left ∷ in_byte (f j).right ∷ []), gates_size f j, mul-suc 5 j)

pub outs_size : (f : ℕ → ℕ) (j : ℕ) → length (out_bytes (upto f j)) ≡ 3 * j
unfolding upto out_bytes
outs_size f zero = refl
outs_size f (suc j) =
    omega (arith, ap length (out_bytes_snoc (upto f j) (f j)), length-append (out_bytes (upto f j)) (79 ∷ 80 ∷ in_byte (f j) ∷ []), outs_size f j, mul-suc 3 j)

-- The masks of lines as the gates are passed one by one: what a gate reads summed, and the loop of `masks_of`. Assumes nothing.
use mathlib.Core.Path.{◌≡◌, refl, ap, ap₂, ◌∙◌, sym}
use mathlib.Core.List.{List, [], ◌∷◌, map}
use Prim.Native.Nat.{ℕ, zero, suc, ◌+◌, ◌*◌, ◌%◌, ◌^◌, ◌≤◌, ◌<◌}
use native.Mathlib.Nat.{one-mul}
use native.Mathlib.Omega.{arith}
use lib.Bits.{bit_xor, xor_zero_r}
use lib.Dec.{lit<}
use lib.ListN.{length, get_or, take, set}
use lib.Pow.{shl_exact}
use Rattle.circuit.specs.Gate.{Kind, kind_of, operands}
use Rattle.circuit.specs.Lines.{Gate, reads, padded}
use Rattle.circuit.specs.Rows.{sum_of, mask_step, input_masks}
use Rattle.circuit.specs.Sizes.{most_lines}
use Rattle.circuit.proofs.GateLaws.{two_operands, high_not}
use Rattle.circuit.proofs.LineLaws.{made}
use Rattle.circuit.proofs.Upto.{upto-length}
use Rattle.bench.specs.declared.Bench.{Bench}
use Rattle.bench.specs.Parts.{gate_on, entries}
use Rattle.bench.proofs.Examining.{entries_read, entries-start, entries_next}
use Rattle.hint.specs.Parts.{read_sum, masks_on}

-- `1 << i` in a byte
pub input_is : (i : ℕ) → i < 8 → (1 * 2 ^ i) % 2 ^ 8 ≡ 2 ^ i
input_is i h = shl_exact {a = 1} 1 i 8 (lit< tt) (omega arith) ∙ one-mul (2 ^ i)

-- ---- what a gate reads

-- a gate of two operands
pub sum_two : (kind a b : ℕ) → kind ≤ 5 → bit_xor a b ≡ read_sum kind a b
unfolding read_sum sum_of
sum_two kind a b h = sym (ap (λ (k : ℕ). sum_of (take k (a ∷ b ∷ []))) (two_operands kind h) ∙ ap (bit_xor a) (xor_zero_r b))

-- NOT
pub sum_one : (kind a b : ℕ) → 6 ≤ kind → a ≡ read_sum kind a b
unfolding read_sum sum_of
sum_one kind a b h = sym (ap (λ (k : Kind). sum_of (take (operands k) (a ∷ b ∷ []))) (high_not kind h) ∙ xor_zero_r a)

-- what stands first is mapped first
map-take : (f : ℕ → ℕ) (k : ℕ) (xs : List ℕ) → map f (take k xs) ≡ take k (map f xs)
map-take f zero xs = refl
map-take f (suc k) [] = refl
map-take f (suc k) (x ∷ xs) = ap (λ (l : List ℕ). f x ∷ l) (map-take f k xs)

-- any gate
pub sum-reads : (q : Gate) (f : ℕ → ℕ) → sum_of (map f (reads q)) ≡ read_sum q.kind (f q.left) (f q.right)
unfolding reads read_sum
sum-reads q f = ap sum_of (map-take f (operands (kind_of q.kind)) (q.left ∷ q.right ∷ []))

-- ---- the array, while the gates are passed one by one
module _ (b : Bench) where
  -- after the first k gates
  abbrev pub SummedTo : ℕ → List ℕ → Type 0
  SummedTo k masks = masks ≡ entries mask_step 0 (input_masks b.n) (gate_on b) b.n k

  inputs_long : length (input_masks b.n) ≡ b.n
  inputs_long = upto-length (λ (i : ℕ). 2 ^ i) b.n

  -- before the first
  pub summed_start : (masks : List ℕ) → masks ≡ padded most_lines 0 (input_masks b.n) → SummedTo 0 masks
  summed_start masks e = e ∙ sym (entries-start mask_step 0 (input_masks b.n) (gate_on b) b.n inputs_long)

  -- one more
  pub summed_next : (k : ℕ) (masks : List ℕ) → b.n + k < most_lines → SummedTo k masks → (x y v : ℕ) → x ≡ (gate_on b k).left → y ≡ (gate_on b k).right
      → v ≡ read_sum (gate_on b k).kind (get_or masks x 0) (get_or masks y 0) → SummedTo (k + 1) (set masks (b.n + k) v)
  summed_next k masks h t x y v ex ey e =
      let q = gate_on b k in
      let at : (i z : ℕ) → i ≡ z → get_or masks i 0 ≡ _ = λ i z d.
      ap₂ (λ (l : List ℕ) (w : ℕ). get_or l w 0) t d ∙ entries_read mask_step 0 (input_masks b.n) (gate_on b) b.n k z in
      let w : v ≡ made mask_step 0 (input_masks b.n) (gate_on b) k =
      e ∙ ap₂ (read_sum q.kind) (at x q.left ex) (at y q.right ey) ∙ sym (sum-reads q _) in
      ap (λ (l : List ℕ). set l (b.n + k) v) t ∙ entries_next mask_step 0 (input_masks b.n) (gate_on b) b.n inputs_long k h v w

  -- after the last
  pub summed_done : (k : ℕ) (masks : List ℕ) → k ≡ b.g → SummedTo k masks → masks ≡ masks_on b
  unfolding masks_on
  summed_done k masks e t = t ∙ ap (entries mask_step 0 (input_masks b.n) (gate_on b) b.n) e

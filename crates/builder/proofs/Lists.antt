-- Laws of lists: the element at a place, and the lines and rows of two parallel lists.
use mathlib.Core.List.{List, [], ◌∷◌, ◌++◌, map}
use mathlib.Core.Path.{◌≡◌, refl, ap, ap₂, ◌∙◌}
use Prim.Native.Nat.{ℕ, zero, suc, ◌+◌, ◌≤◌, ◌<◌, max}
use native.Mathlib.Numerals.{add-one}
use native.Mathlib.Omega.{arith}
use lib.Bits.{bit_xor}
use lib.ListN.{length, get_or, take}
use lib.Seq.{take-suc}
use Rattle.circuit.specs.Lines.{greatest}
use Rattle.distance.specs.Base.{Line, line, base_of, none, xor, made}
use Rattle.builder.specs.Rule.{Row, row, rows_of}

-- one element more is taken
pub take_next : {A : Type 0} (l : List A) (i : ℕ) (d : A) → i < length l → take (i + 1) l ≡ take i l ++ (get_or l i d ∷ [])
take_next l i d h = ap (λ (x : ℕ). take x l) (add-one i) ∙ take-suc l i d h

-- ---- the lines of a list of masks and a list of depths
pub lines_length : (ms ds : List ℕ) → length ms ≡ length ds → length (base_of ms ds) ≡ length ms
lines_length [] ds e = refl
lines_length (m ∷ ms) [] e = absurd (omega arith)
lines_length (m ∷ ms) (d ∷ ds) e = ap suc (lines_length ms ds (omega arith))

pub lines_get : (ms ds : List ℕ) (i : ℕ) → length ms ≡ length ds → get_or (base_of ms ds) i none ≡ line (get_or ms i 0) (get_or ds i 0)
lines_get [] [] i e = refl
lines_get [] (d ∷ ds) i e = absurd (omega arith)
lines_get (m ∷ ms) [] i e = absurd (omega arith)
lines_get (m ∷ ms) (d ∷ ds) zero e = refl
lines_get (m ∷ ms) (d ∷ ds) (suc i) e = lines_get ms ds i (omega arith)

pub made_at : (ms ds : List ℕ) (i j : ℕ) → length ms ≡ length ds
    → made (base_of ms ds) (xor i j) ≡ line (bit_xor (get_or ms i 0) (get_or ms j 0)) (suc (max (get_or ds i 0) (get_or ds j 0)))
made_at ms ds i j e =
    ap₂ (λ (x y : Line). line (bit_xor x.mask y.mask) (suc (max x.depth y.depth))) (lines_get ms ds i e) (lines_get ms ds j e)

pub lines_snoc : (xs ys : List ℕ) (m d : ℕ) → length xs ≡ length ys → base_of (xs ++ (m ∷ [])) (ys ++ (d ∷ [])) ≡ base_of xs ys ++ (line m d ∷ [])
lines_snoc [] [] m d e = refl
lines_snoc [] (y ∷ ys) m d e = absurd (omega arith)
lines_snoc (x ∷ xs) [] m d e = absurd (omega arith)
lines_snoc (x ∷ xs) (y ∷ ys) m d e = ap (λ (l : List Line). line x y ∷ l) (lines_snoc xs ys m d (omega arith))

-- ---- the rows of a list of masks and a list of limits
pub rows_length : (ts ds : List ℕ) → length ts ≡ length ds → length (rows_of ts ds) ≡ length ts
rows_length [] ds e = refl
rows_length (t ∷ ts) [] e = absurd (omega arith)
rows_length (t ∷ ts) (d ∷ ds) e = ap suc (rows_length ts ds (omega arith))

pub rows_at : (ts ds : List ℕ) (i : ℕ) → length ts ≡ length ds → get_or (rows_of ts ds) i (row 0 0) ≡ row (get_or ts i 0) (get_or ds i 0)
rows_at [] [] i e = refl
rows_at [] (d ∷ ds) i e = absurd (omega arith)
rows_at (t ∷ ts) [] i e = absurd (omega arith)
rows_at (t ∷ ts) (d ∷ ds) zero e = refl
rows_at (t ∷ ts) (d ∷ ds) (suc i) e = rows_at ts ds i (omega arith)

pub rows_limits : (ts ds : List ℕ) → length ts ≡ length ds → map (λ (r : Row). r.limit) (rows_of ts ds) ≡ ds
rows_limits [] [] e = refl
rows_limits [] (d ∷ ds) e = absurd (omega arith)
rows_limits (t ∷ ts) [] e = absurd (omega arith)
rows_limits (t ∷ ts) (d ∷ ds) e = ap (λ (l : List ℕ). d ∷ l) (rows_limits ts ds (omega arith))

-- ---- the greatest of a list
-- what bounds each bounds the greatest
pub greatest_below : (xs : List ℕ) (b : ℕ) → ((i : ℕ) → get_or xs i 0 ≤ b) → greatest xs ≤ b
greatest_below [] b f = omega arith
greatest_below (x ∷ xs) b f = omega (arith, f 0, greatest_below xs b (λ i. f (suc i)))

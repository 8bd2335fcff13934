-- Laws of f 0, f 1, .., j of them: a list that grows at the end. Assumes nothing.
use mathlib.Core.Path.{◌≡◌, refl, ap, ◌∙◌, sym}
use mathlib.Core.Logic.{⊎_elim}
use mathlib.Core.List.{List, [], ◌∷◌, ◌++◌, map}
use Prim.Native.Nat.{ℕ, zero, suc, ◌≤◌, ◌<◌, ◌+◌}
use native.Mathlib.Nat.{eq-or-lt_of_le}
use native.Mathlib.Numerals.{add-one}
use native.Mathlib.Omega.{arith}
use lib.ListN.{length, get_or, set, take, length-append, get_or-append}
use lib.Seq.{get_or_at, take-suc, take-length}
use Rattle.circuit.specs.Lines.{upto, padded}
use Rattle.circuit.proofs.Padding.{padded-put}

-- one more
pub upto-suc : {A : Type 0} (f : ℕ → A) (j : ℕ) → upto f (j + 1) ≡ upto f j ++ (f j ∷ [])
unfolding upto
upto-suc f j = ap (upto f) (add-one j)

pub upto-length : {A : Type 0} (f : ℕ → A) (j : ℕ) → length (upto f j) ≡ j
unfolding upto
upto-length f zero = refl
upto-length f (suc j) = omega (arith, length-append (upto f j) (f j ∷ []), upto-length f j)

-- element k of f 0, f 1, ..
pub upto_at : {A : Type 0} (f : ℕ → A) (d : A) (j k : ℕ) → k < j → get_or (upto f j) k d ≡ f k
unfolding upto
upto_at f d zero k h = absurd (omega arith)
upto_at f d (suc j) k h =
    ⊎_elim (λ e. get_or_at (upto f j) (f j) [] d k (upto-length f j ∙ sym e) ∙ ap f (sym e))
    (λ l. get_or-append (upto f j) (f j ∷ []) d k (omega (arith, upto-length f j)) ∙ upto_at f d j k l)
    (eq-or-lt_of_le {n = k} {m = j} (omega arith))

pub upto_same : {A : Type 0} (f g : ℕ → A) (j : ℕ) → ((k : ℕ) → k < j → f k ≡ g k) → upto f j ≡ upto g j
unfolding upto
upto_same f g zero h = refl
upto_same f g (suc j) h = let a = upto_same f g j (λ k q. h k (omega arith)) in let b = h j (omega arith) in λ i. a i ++ (b i ∷ [])

pub upto_take : {A : Type 0} (l : List A) (d : A) (j : ℕ) → j ≤ length l → upto (λ (k : ℕ). get_or l k d) j ≡ take j l
unfolding upto
upto_take l d zero h = refl
upto_take {A} l d (suc j) h = ap (λ (p : List A). p ++ (get_or l j d ∷ [])) (upto_take l d j (omega arith)) ∙ sym (take-suc l j d (omega arith))

pub upto_all : {A : Type 0} (l : List A) (d : A) → upto (λ (k : ℕ). get_or l k d) (length l) ≡ l
upto_all l d = upto_take l d (length l) (omega arith) ∙ take-length l

-- a map of one element more
pub map_snoc : {A B : Type 0} (f : A → B) (l : List A) (a : A) → map f (l ++ (a ∷ [])) ≡ map f l ++ (f a ∷ [])
map_snoc f [] a = refl
map_snoc {A} {B} f (x ∷ l) a = ap (λ (r : List B). f x ∷ r) (map_snoc f l a)

-- a map of f 0, f 1, ..
pub map-upto : {A B : Type 0} (f : A → B) (h : ℕ → A) (j : ℕ) → map f (upto h j) ≡ upto (λ (k : ℕ). f (h k)) j
unfolding upto
map-upto f h zero = refl
map-upto {B} f h (suc j) = map_snoc f (upto h j) (h j) ∙ ap (λ (l : List B). l ++ (f (h j) ∷ [])) (map-upto f h j)

-- f 0, f 1, .. in an array: one more is stored
pub upto_put : {A : Type 0} (cap : ℕ) (d : A) (f : ℕ → A) (i : ℕ) (v : A) → v ≡ f i → i < cap → set (padded cap d (upto f i)) i v ≡ padded cap d (upto f (i + 1))
upto_put {A} cap d f i v e h =
    padded-put cap d (upto f i) i v (sym (upto-length f i)) h ∙ ap (λ (x : A). padded cap d (upto f i ++ (x ∷ []))) e ∙ ap (padded cap d) (sym (upto-suc f i))

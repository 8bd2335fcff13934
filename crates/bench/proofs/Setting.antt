-- Lists in which one element is changed. Assumes nothing.
use mathlib.Core.Path.{◌≡◌, refl, ap}
use mathlib.Core.List.{List, [], ◌∷◌, map}
use Prim.Native.Nat.{ℕ, zero, suc, ◌<◌}
use native.Mathlib.Omega.{arith}
use lib.ListN.{length, get_or, set}

-- what holds of each element, and of one that is put in at its place, holds of each element of the list so changed
pub set_each : {A : Type 0} (P : ℕ → A → Type 0) (l : List A) (k : ℕ) (x d : A) → P k x → ((j : ℕ) → j < length l → P j (get_or l j d))
    → (j : ℕ) → j < length (set l k x) → P j (get_or (set l k x) j d)
set_each P [] k x d p all j h = absurd (omega arith)
set_each P (y ∷ l) zero x d p all zero h = p
set_each P (y ∷ l) zero x d p all (suc j) h = all (suc j) h
set_each P (y ∷ l) (suc k) x d p all zero h = all zero (omega arith)
set_each P (y ∷ l) (suc k) x d p all (suc j) h = set_each (λ (i : ℕ). P (suc i)) l k x d p (λ i q. all (suc i) (omega arith)) j (omega arith)

-- a column of a list in which one element is changed
pub map-set : {A B : Type 0} (f : A → B) (l : List A) (i : ℕ) (x : A) → map f (set l i x) ≡ set (map f l) i (f x)
map-set f [] i x = refl
map-set f (y ∷ l) zero x = refl
map-set {A} {B} f (y ∷ l) (suc i) x = ap (λ (r : List B). f y ∷ r) (map-set f l i x)
